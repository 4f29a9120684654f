-- What is found of a setup, read backwards: where p is 0, from where to where it is otherwise, and what the setup given is. Over any test. Assumes nothing.
use Prim.Native.Nat.{ℕ, zero, suc, ◌+◌, ◌-◌, ◌/◌, ◌^◌, ◌≤◌, ◌<◌}
use mathlib.Core.Path.{◌≡◌, refl, sym, ap, subst, ◌∙◌}
use mathlib.Core.Logic.{◌↔◌}
use mathlib.Core.Bool.{Bool, true, false, true≢false}
use mathlib.Core.Option.{Option, none, some}
use native.Mathlib.Nat.{div-one, div-eq_of_lt}
use native.Mathlib.Omega.{arith}
use borrow.Author.Tests.{eq-eqb}
use Rattle.diagram.specs.Meaning.{bit}
use Rattle.diagram.specs.Count.{count_below, smallest}
use Rattle.diagram.proofs.CountLaws.{count_none, none_counted}
use Rattle.diagram.proofs.Select.{Least, smallest_least, none_smallest}
use Rattle.diagram.proofs.Digits.{same_digit}
use Rattle.exclusion.specs.Finding.{agree, begins_as, none_begins, first_ruling, given, is_permitted, ruled_out, finding_by, finding, IsGiven}
use Rattle.exclusion.proofs.Begins.{Same, begins_is, is_begins, begins_some, none_begins_lem, finds_nothing}

module _ (P : ℕ → Bool) (n x : ℕ) (l : x < 2 ^ n) where
  -- no p: the setup itself is one that begins with all its settings
  pub permitted_if : finding P n x ≡ is_permitted → P x ≡ true
  unfolding finding finding_by first_ruling
  permitted_if = go (first_ruling P n x) refl
    where
      go : (o : Option ℕ) → first_ruling P n x ≡ o → finding_by (given P n x) o ≡ is_permitted → P x ≡ true
      go none q e =
          let s = begins_some P n x n (none_smallest (none_begins P n x) (n + 1) q n (omega arith)) in
          let z : n - n ≡ 0 = omega arith in
          let whole : s.0 ≡ x = sym (div-one s.0) ∙ subst (λ (g : ℕ). s.0 / 2 ^ g ≡ x / 2 ^ g) z s.3 ∙ div-one x in
          subst (λ (y : ℕ). P y ≡ true) whole s.2
      go (some p) q e = let i : ◌≡◌ {A = ℕ} 0 1 = cc in absurd (omega arith)

  -- the p found is the smallest, and the setup is the one given for it
  ruled_is : (p : ℕ) (o : Option ℕ) → finding P n x ≡ ruled_out p o → Least (none_begins P n x) (n + 1) p × (o ≡ given P n x p)
  unfolding finding finding_by first_ruling
  ruled_is p o = go (first_ruling P n x) refl
    where
      go : (r : Option ℕ) → first_ruling P n x ≡ r → finding_by (given P n x) r ≡ ruled_out p o → Least (none_begins P n x) (n + 1) p × (o ≡ given P n x p)
      go none q e = let i : ◌≡◌ {A = ℕ} 0 1 = cc in absurd (omega arith)
      go (some r) q e =
          let i : r ≡ p = cc in
          let j : given P n x r ≡ o = cc in
          (smallest_least (none_begins P n x) (n + 1) p (q ∙ ap some i), sym j ∙ ap (given P n x) i)

  -- setups of n settings all begin with the same first 0
  none_before : (y : ℕ) → y < 2 ^ n → Same P n x 0 y
  none_before y i = let whole : n ≡ n - 0 = omega arith in subst (λ (g : ℕ). y / 2 ^ g ≡ x / 2 ^ g) whole (div-eq_of_lt i ∙ sym (div-eq_of_lt l))

  empty_if : none_begins P n x 0 ≡ true → count_below P (2 ^ n) ≡ 0
  empty_if e = count_none P (2 ^ n) (λ y i. none_begins_lem P n x 0 e y i (none_before y i))

  -- p is 0 exactly where nothing is permitted
  pub zero_exactly : (finding P n x ≡ ruled_out 0 none) ↔ (count_below P (2 ^ n) ≡ 0)
  zero_exactly = (λ e. empty_if (ruled_is 0 none e).0.passes, λ z. finds_nothing P n x l (none_counted P (2 ^ n) z))

  -- a p above 0 has a setup: one that begins with the first p settings
  some_given : (p : ℕ) → Least (none_begins P n x) (n + 1) (suc p) → (y : ℕ) × (given P n x (suc p) ≡ some y)
  unfolding given
  some_given p L = go (smallest (begins_as P n x p) (2 ^ n)) refl
    where
      before : (b : Bool) → none_begins P n x p ≡ b → none_begins P n x p ≡ false
      before true e = absurd (omega (arith, L.least p (omega (arith, L.below)) e))
      before false e = e

      go : (o : Option ℕ) → smallest (begins_as P n x p) (2 ^ n) ≡ o → (y : ℕ) × (o ≡ some y)
      go none q =
          let s = begins_some P n x p (before (none_begins P n x p) refl) in
          absurd (true≢false (sym (is_begins P n x p s.0 s.2 s.3) ∙ none_smallest (begins_as P n x p) (2 ^ n) q s.0 s.1))
      go (some y) q = (y, refl)

  -- so none is given only for p = 0, where nothing is permitted
  pub none_given : (p : ℕ) → finding P n x ≡ ruled_out p none → (p ≡ 0) × (count_below P (2 ^ n) ≡ 0)
  none_given p e = let r = ruled_is p none e in go p r.0 r.1
    where
      go : (p : ℕ) → Least (none_begins P n x) (n + 1) p → none ≡ given P n x p → (p ≡ 0) × (count_below P (2 ^ n) ≡ 0)
      go zero L q = (refl, empty_if L.passes)
      go (suc p) L q =
          let s = some_given p L in
          let i : none ≡ some s.0 = q ∙ s.1 in
          let z : ◌≡◌ {A = ℕ} 0 1 = cc in
          absurd (omega arith)

  -- otherwise an unpermitted setup has a p from 1 to n, and a setup is given
  pub ruled_between : P x ≡ false → 0 < count_below P (2 ^ n) → (p : ℕ) × (y : ℕ) × (finding P n x ≡ ruled_out p (some y)) × (1 ≤ p) × (p ≤ n)
  unfolding finding finding_by first_ruling
  ruled_between out inhabited = go (first_ruling P n x) refl
    where
      go : (r : Option ℕ) → first_ruling P n x ≡ r → (p : ℕ) × (y : ℕ) × (finding_by (given P n x) r ≡ ruled_out p (some y)) × (1 ≤ p) × (p ≤ n)
      go none q = absurd (true≢false (sym (permitted_if (ap (finding_by (given P n x)) q)) ∙ out))
      go (some zero) q = absurd (omega (arith, inhabited, empty_if (smallest_least (none_begins P n x) (n + 1) 0 q).passes))
      go (some (suc p)) q =
          let L = smallest_least (none_begins P n x) (n + 1) (suc p) q in
          let s = some_given p L in
          (suc p, s.0, ap (ruled_out (suc p)) s.1, omega arith, omega (arith, L.below))

  -- what the setup given is
  pub given_is : (p y : ℕ) → finding P n x ≡ ruled_out p (some y) → IsGiven P n x p y
  unfolding given agree
  given_is p y e = let r = ruled_is p (some y) e in go p r.0 r.1
    where
      go : (p : ℕ) → Least (none_begins P n x) (n + 1) p → some y ≡ given P n x p → IsGiven P n x p y
      go zero L q = let i : ◌≡◌ {A = ℕ} 0 1 = cc in absurd (omega arith)
      go (suc p) L q =
          let S = smallest_least (begins_as P n x p) (2 ^ n) y (sym q) in
          let b = begins_is P n x p y S.passes in
          let less : p ≡ suc p - 1 = omega arith in
          let up : n + 1 - suc p ≡ n - p = omega arith in
          let down : n - p - 1 ≡ n - suc p = omega arith in
          record {
            from_one = omega arith;
            to_n = omega (arith, L.below);
            below = S.below;
            permits_it = b.0;
            agrees = subst (λ (q : ℕ). agree n q x y ≡ true) less (eq-eqb (y / 2 ^ (n - p)) (x / 2 ^ (n - p)) b.1);
            differs = λ s.
                let d = same_digit (n - p) (omega (arith, L.below)) x y b.1 (subst (λ (h : ℕ). bit h y ≡ bit h x) up s) in
                true≢false (sym b.0 ∙ none_begins_lem P n x (suc p) L.passes y S.below (subst (λ (g : ℕ). y / 2 ^ g ≡ x / 2 ^ g) down d));
          }
