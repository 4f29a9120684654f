-- Which setups begin as another does, and what is found of a setup, over any test. Assumes nothing.
use Prim.Native.Nat.{ℕ, suc, ◌+◌, ◌-◌, ◌/◌, ◌^◌, ◌≤◌, ◌<◌}
use mathlib.Core.Path.{◌≡◌, refl, sym, ap, ◌∙◌}
use mathlib.Core.Bool.{Bool, true, false, not, true≢false}
use mathlib.Core.Option.{none, some}
use native.Mathlib.Omega.{arith}
use lib.Dec.{eqb}
use borrow.Author.Tests.{eqb-true, eq-eqb, not-false}
use Rattle.words.proofs.Cases.{less, same, more, tri, both_true}
use Rattle.diagram.specs.Count.{some_below}
use Rattle.diagram.proofs.AnswerLaws.{some_at, some_found}
use Rattle.diagram.proofs.Select.{Least, smallest_is, smallest_none}
use Rattle.diagram.proofs.Digits.{above}
use Rattle.exclusion.specs.Finding.{agree, begins_as, none_begins, first_ruling, given, is_permitted, ruled_out, finding_by, finding}

module _ (P : ℕ → Bool) (n x : ℕ) where
  -- y has the first p settings of x
  abbrev pub Same : ℕ → ℕ → Type 0
  Same p y = y / 2 ^ (n - p) ≡ x / 2 ^ (n - p)

  pub begins_is : (p y : ℕ) → begins_as P n x p y ≡ true → (P y ≡ true) × Same p y
  unfolding begins_as agree
  begins_is p y e = let b = both_true (P y) (eqb (y / 2 ^ (n - p)) (x / 2 ^ (n - p))) e in (b.0, eqb-true (y / 2 ^ (n - p)) (x / 2 ^ (n - p)) b.1)

  pub is_begins : (p y : ℕ) → P y ≡ true → Same p y → begins_as P n x p y ≡ true
  unfolding begins_as agree
  is_begins p y e q = rw (e, eq-eqb (y / 2 ^ (n - p)) (x / 2 ^ (n - p)) q)

  -- some permitted setup begins so, or none does
  pub some_begins : (p y : ℕ) → y < 2 ^ n → P y ≡ true → Same p y → none_begins P n x p ≡ false
  unfolding none_begins
  some_begins p y l e q = ap not (some_at (begins_as P n x p) (2 ^ n) y l (is_begins p y e q))

  pub begins_some : (p : ℕ) → none_begins P n x p ≡ false → (y : ℕ) × (y < 2 ^ n) × (P y ≡ true) × Same p y
  unfolding none_begins
  begins_some p e =
      let f = some_found (begins_as P n x p) (2 ^ n) (not-false (some_below (begins_as P n x p) (2 ^ n)) e) in
      let b = begins_is p f.0 f.2 in
      (f.0, f.1, b.0, b.1)

  pub none_begins_lem : (p : ℕ) → none_begins P n x p ≡ true → (y : ℕ) → y < 2 ^ n → Same p y → P y ≡ false
  none_begins_lem p e y l q = go (P y) refl
    where
      go : (b : Bool) → P y ≡ b → P y ≡ false
      go true r = absurd (true≢false (sym e ∙ some_begins p y l r q))
      go false r = r

  pub begins_none : (p : ℕ) → ((y : ℕ) → y < 2 ^ n → Same p y → P y ≡ false) → none_begins P n x p ≡ true
  begins_none p f = go (none_begins P n x p) refl
    where
      go : (b : Bool) → none_begins P n x p ≡ b → none_begins P n x p ≡ true
      go true e = e
      go false e = let s = begins_some p e in absurd (true≢false (sym s.2 ∙ f s.0 s.1 s.3))

  -- a permitted setup
  pub finds_permitted : x < 2 ^ n → P x ≡ true → finding P n x ≡ is_permitted
  unfolding finding first_ruling finding_by
  finds_permitted l e = ap (finding_by (given P n x)) (smallest_none (none_begins P n x) (n + 1) (λ p _. some_begins p x l e refl))

  -- nothing is permitted
  pub finds_nothing : x < 2 ^ n → ((y : ℕ) → y < 2 ^ n → P y ≡ false) → finding P n x ≡ ruled_out 0 none
  unfolding finding first_ruling finding_by given
  finds_nothing l f = ap (finding_by (given P n x)) (smallest_is (none_begins P n x) (n + 1) 0 (record { below = omega arith; passes = begins_none 0 (λ y i _. f y i); least = λ _ _ _. omega arith }))

  -- nothing permitted begins with the first p + 1 settings, and y is the smallest that agrees in the first p
  pub finds_ruled : (p y : ℕ) → p < n → ((z : ℕ) → z < 2 ^ n → Same (suc p) z → P z ≡ false)
      → Least (begins_as P n x p) (2 ^ n) y → finding P n x ≡ ruled_out (suc p) (some y)
  unfolding finding first_ruling finding_by given
  finds_ruled p y l f least =
      ap (finding_by (given P n x)) (smallest_is (none_begins P n x) (n + 1) (suc p) (record { below = omega arith; passes = begins_none (suc p) f; least = shorter }))
      ∙ ap (ruled_out (suc p)) (smallest_is (begins_as P n x p) (2 ^ n) y least)
    where
      b : (P y ≡ true) × Same p y
      b = begins_is p y least.passes

      shorter : (q : ℕ) → q < n + 1 → none_begins P n x q ≡ true → suc p ≤ q
      shorter q _ e = elim (tri p q) [
        | less i ↦ i
        | same i ↦ absurd (true≢false (sym e ∙ some_begins q y least.below b.0 (fewer (omega arith))))
        | more i ↦ absurd (true≢false (sym e ∙ some_begins q y least.below b.0 (fewer (omega arith))))
      ]
        where
          fewer : q ≤ p → Same q y
          fewer i = above (n - p) (n - q) x y (omega arith) b.1
