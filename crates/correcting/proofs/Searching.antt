-- What the search for the closest setup comes to, over any test. Assumes nothing.
use Prim.Native.Nat.{ℕ, ◌+◌, ◌/◌, ◌^◌, ◌<◌}
use mathlib.Core.Path.{◌≡◌, refl, sym, ap, subst, ◌∙◌}
use mathlib.Core.Bool.{Bool, true, false, true≢false}
use mathlib.Core.Option.{Option, none, some}
use native.Mathlib.Nat.{div-eq_of_lt, le_refl}
use native.Mathlib.Omega.{arith}
use lib.Dec.{eqb}
use borrow.Author.Tests.{eqb-true, eq-eqb}
use Rattle.words.proofs.Cases.{both_true, fails}
use Rattle.diagram.specs.Count.{smallest, some_below}
use Rattle.diagram.specs.Answer.{value, refusal, and_then, or_refuse}
use Rattle.diagram.proofs.AnswerLaws.{refused_not, value_inj, or_some, then_some, some_at, some_found}
use Rattle.diagram.proofs.Refusals.{Refuses, passes, or_refuses, then_refuses}
use Rattle.diagram.proofs.Digits.{fits}
use Rattle.diagram.proofs.Select.{smallest_is, smallest_least, smallest_none, none_smallest}
use Rattle.distances.specs.Distance.{distance}
use Rattle.distances.specs.Inner.{Nearest}
use Rattle.distances.proofs.Distances.{dist_le}
use Rattle.correcting.specs.Search.{is_at, fewest, closest_at, closest, IsClosest}

module _ (P : ℕ → Bool) (n x : ℕ) where
  at_is : (d y : ℕ) → is_at P n x d y ≡ true → (P y ≡ true) × (distance n x y ≡ d)
  unfolding is_at
  at_is d y e = let b = both_true (P y) (eqb (distance n x y) d) e in (b.0, eqb-true (distance n x y) d b.1)

  is_at_lem : (d y : ℕ) → P y ≡ true → distance n x y ≡ d → is_at P n x d y ≡ true
  unfolding is_at
  is_at_lem d y p q = rw (p, eq-eqb (distance n x y) d q)

  -- the fewest settings, and the smallest setup that differs in so many
  pub closest_is : (y d : ℕ) → IsClosest P n x y d → closest P n x ≡ value (y, d)
  unfolding closest fewest closest_at and_then or_refuse
  closest_is y d C = rw (few, found)
    where
      few : smallest (λ c. some_below (is_at P n x c) (2 ^ n)) (n + 1) ≡ some d
      few = smallest_is (λ c. some_below (is_at P n x c) (2 ^ n)) (n + 1) d (record {
        below = omega (arith, dist_le n x y, C.differs);
        passes = some_at (is_at P n x d) (2 ^ n) y C.below (is_at_lem d y C.permits_it C.differs);
        least = λ c l p. (
            let f = some_found (is_at P n x c) (2 ^ n) p in
            let a = at_is c f.0 f.2 in
            omega (arith, C.none_closer f.0 f.1 a.0, a.1));
      })

      found : smallest (is_at P n x d) (2 ^ n) ≡ some y
      found = smallest_is (is_at P n x d) (2 ^ n) y (record {
        below = C.below;
        passes = is_at_lem d y C.permits_it C.differs;
        least = λ z l p. (let a = at_is d z p in C.least z l a.0 a.1);
      })

  -- ... and back
  pub is_closest : (y d : ℕ) → closest P n x ≡ value (y, d) → IsClosest P n x y d
  unfolding closest fewest closest_at
  is_closest y d e =
      let s = then_some (or_refuse 21 (fewest P n x)) _ e in
      let c = s.0 in
      let r = then_some (or_refuse 21 (closest_at P n x c)) _ s.2 in
      let v = r.0 in
      let pair = value_inj r.2 in
      let few = smallest_least (λ b. some_below (is_at P n x b) (2 ^ n)) (n + 1) c (or_some 21 (fewest P n x) s.1) in
      let one = smallest_least (is_at P n x c) (2 ^ n) v (or_some 21 (closest_at P n x c) r.1) in
      let at = at_is c v one.passes in
      let y-is : v ≡ y = ap (λ p. p.0) pair in
      let d-is : c ≡ d = ap (λ p. p.1) pair in
      subst (λ (m : ℕ). IsClosest P n x y m) d-is (subst (λ (m : ℕ). IsClosest P n x m c) y-is (record {
        below = one.below;
        permits_it = at.0;
        differs = at.1;
        none_closer = λ z l p. few.least (distance n x z) (omega (arith, dist_le n x z)) (some_at (is_at P n x (distance n x z)) (2 ^ n) z l (is_at_lem (distance n x z) z p refl));
        least = λ z l p q. one.least z l (is_at_lem c z p q);
      }))

  -- nothing is permitted
  pub closest_none : ((z : ℕ) → z < 2 ^ n → P z ≡ false) → closest P n x ≡ refusal 21 0
  unfolding closest fewest and_then or_refuse
  closest_none f = rw (smallest_none (λ c. some_below (is_at P n x c) (2 ^ n)) (n + 1) (λ c _. fails (some_below (is_at P n x c) (2 ^ n)) (none_at c)))
    where
      none_at : (c : ℕ) → some_below (is_at P n x c) (2 ^ n) ≡ true → ⊥
      none_at c q = let s = some_found (is_at P n x c) (2 ^ n) q in true≢false (sym (at_is c s.0 s.2).0 ∙ f s.0 s.1)

  -- ... and back: it is refused only so
  pub none_closest : (number place : ℕ) → closest P n x ≡ refusal number place → (z : ℕ) → z < 2 ^ n → P z ≡ false
  unfolding closest fewest closest_at and_then or_refuse
  none_closest number place e z l = fails (P z) λ p. found (fewest P n x) refl e p
    where
      search : ℕ → Bool
      search c = some_below (is_at P n x c) (2 ^ n)

      some_setup : (c : ℕ) (o : Option ℕ) → closest_at P n x c ≡ o → search c ≡ true → and_then {B = ℕ × ℕ} (or_refuse 21 o) (λ y. value (y, c)) ≡ refusal number place → ⊥
      some_setup c none q r i = let s = some_found (is_at P n x c) (2 ^ n) r in true≢false (sym s.2 ∙ none_smallest (is_at P n x c) (2 ^ n) q s.0 s.1)
      some_setup c (some y) q r i = refused_not (sym i)

      found : (o : Option ℕ) → fewest P n x ≡ o → and_then {B = ℕ × ℕ} (or_refuse 21 o) (λ c. and_then {B = ℕ × ℕ} (or_refuse 21 (closest_at P n x c)) (λ y. value (y, c))) ≡ refusal number place → P z ≡ true → ⊥
      found none q i p =
          let d = distance n x z in
          true≢false (sym (some_at (is_at P n x d) (2 ^ n) z l (is_at_lem d z p refl)) ∙ none_smallest search (n + 1) q d (omega (arith, dist_le n x z)))
      found (some c) q i p = some_setup c (closest_at P n x c) refl (smallest_least search (n + 1) c q).passes i

  -- the nearest of all setups of n settings is the closest
  pub nearest_closest : (y : ℕ) → x < 2 ^ n → Nearest P n x y → IsClosest P n x y (distance n x y)
  nearest_closest y l N =
      let all : (z : ℕ) → z < 2 ^ n → z / 2 ^ n ≡ x / 2 ^ n = λ z i. div-eq_of_lt i ∙ sym (div-eq_of_lt l) in
      record {
        below = fits n n x y (le_refl n) l N.begins;
        permits_it = N.passes;
        differs = refl;
        none_closer = λ z i p. N.nearest z (all z i) p;
        least = λ z i p q. N.least z (all z i) p q;
      }

-- it refuses by 21 only
pub closest_refuses : (Q : ℕ → ℕ → Type 0) → Q 21 0 → (P : ℕ → Bool) (n x : ℕ) → Refuses Q (closest P n x)
unfolding closest
closest_refuses Q q P n x =
    then_refuses Q (or_refuse 21 (fewest P n x)) _ (or_refuses Q 21 q (fewest P n x)) (λ d _. then_refuses Q (or_refuse 21 (closest_at P n x d)) _ (or_refuses Q 21 q (closest_at P n x d)) (λ y _. passes {A = ℕ × ℕ} Q (y, d)))
