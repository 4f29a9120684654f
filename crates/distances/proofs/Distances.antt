-- The laws of distances. Assumes nothing.
use Prim.Native.Nat.{ℕ, zero, suc, ◌+◌, ◌-◌, ◌*◌, ◌/◌, ◌%◌, ◌^◌, ◌≤◌, ◌<◌}
use mathlib.Core.Path.{◌≡◌, refl, sym, ap, ap₂, subst, ◌∙◌}
use mathlib.Core.Bool.{Bool, true, false, xor}
use native.Mathlib.Omega.{arith}
use native.Mathlib.Nat.{mod-lt}
use lib.Dec.{eqb}
use lib.Pow.{pow_pos, split, mod-pow-add}
use lib.Bits.{bit_xor, xor_shr, xor_mod}
use lib.Count.{ones, ones_in, ones_cat}
use borrow.Author.Tests.{eqb-true, eqb-false}
use Rattle.words.proofs.Cases.{less, same, more, tri}
use Rattle.diagram.specs.Meaning.{bit}
use Rattle.diagram.specs.Count.{indicator}
use Rattle.diagram.proofs.CountLaws.{indicator_le}
use Rattle.diagram.proofs.Bits.{bit_mod}
use Rattle.diagram.proofs.Digits.{above}
use Rattle.distances.specs.Distance.{distance}

-- by the first of h settings
pub dist_step : (h x y : ℕ) → 0 < h → distance h x y ≡ distance (h - 1) x y + indicator (xor (bit h x) (bit h y))
unfolding distance
dist_step zero x y l = absurd (omega arith)
dist_step (suc h) x y l = let e : suc h - 1 ≡ h = omega arith in rw e

-- at most all differ
pub dist_le : (h x y : ℕ) → distance h x y ≤ h
unfolding distance
dist_le zero x y = omega arith
dist_le (suc h) x y = omega (arith, dist_le h x y, indicator_le (xor (bit (suc h) x) (bit (suc h) y)))

-- more settings, no smaller distance
pub dist_mono : (g h x y : ℕ) → g ≤ h → distance g x y ≤ distance h x y
unfolding distance
dist_mono g zero x y l = let e : g ≡ 0 = omega arith in rw e (omega arith)
dist_mono g (suc h) x y l = elim (tri g (suc h)) [
  | less q ↦ omega (arith, dist_mono g h x y (omega arith))
  | same q ↦ rw q (omega arith)
  | more q ↦ absurd (omega arith)
]

-- a setting does not differ from itself
pub kept : (b : Bool) → indicator (xor b b) ≡ 0
unfolding indicator xor
kept true = refl
kept false = refl

-- nor does a setup
pub dist_self : (h x : ℕ) → distance h x x ≡ 0
unfolding distance
dist_self zero x = refl
dist_self (suc h) x = omega (arith, dist_self h x, kept (bit (suc h) x))

-- settings before the last h do not matter
dist_mod : (h H x y : ℕ) → h ≤ H → distance h (x % 2 ^ H) (y % 2 ^ H) ≡ distance h x y
unfolding distance
dist_mod zero H x y l = refl
dist_mod (suc h) H x y l = ap₂ ◌+◌ (dist_mod h H x y (omega arith)) (ap₂ (λ (a b : Bool). indicator (xor a b)) (bit_mod (suc h) H x (omega arith) l) (bit_mod (suc h) H y (omega arith) l))

pub dist_ends : (h x x' y y' : ℕ) → x % 2 ^ h ≡ x' % 2 ^ h → y % 2 ^ h ≡ y' % 2 ^ h → distance h x y ≡ distance h x' y'
dist_ends h x x' y y' p q = sym (dist_mod h h x y (omega arith)) ∙ ap₂ (distance h) p q ∙ dist_mod h h x' y' (omega arith)

-- the last suc h digits, by the first of them
last_digits : (h z : ℕ) → z % 2 ^ suc h ≡ z / 2 ^ h % 2 ^ 1 * 2 ^ h + z % 2 ^ h
last_digits h z = let i : 1 + h ≡ suc h = omega arith in subst (λ (k : ℕ). z % 2 ^ k ≡ z / 2 ^ h % 2 ^ 1 * 2 ^ h + z % 2 ^ h) i (mod-pow-add z 1 h)

-- where none differs, the last h settings are the same
pub dist_zero : (h x y : ℕ) → distance h x y ≡ 0 → y % 2 ^ h ≡ x % 2 ^ h
unfolding distance bit indicator xor
dist_zero zero x y e = omega arith
dist_zero (suc h) x y e =
    last_digits h y
    ∙ ap₂ (λ (d r : ℕ). d * 2 ^ h + r) (digit (omega (arith, e))) (dist_zero h x y (omega (arith, e)))
    ∙ sym (last_digits h x)
  where
    same : (c d : ℕ) (a b : Bool) → eqb (c % 2) 1 ≡ a → eqb (d % 2) 1 ≡ b → indicator (xor a b) ≡ 0 → d % 2 ≡ c % 2
    same c d true true p q r = let s = eqb-true (c % 2) 1 p in let t = eqb-true (d % 2) 1 q in omega arith
    same c d false false p q r = let s = eqb-false (c % 2) 1 p in let t = eqb-false (d % 2) 1 q in omega arith
    same c d true false p q r = absurd (omega (arith, r))
    same c d false true p q r = absurd (omega (arith, r))

    digit : indicator (xor (bit (suc h) x) (bit (suc h) y)) ≡ 0 → y / 2 ^ h % 2 ^ 1 ≡ x / 2 ^ h % 2 ^ 1
    digit z =
        let g : suc h - 1 ≡ h = omega arith in
        subst (λ (k : ℕ). y / 2 ^ k % 2 ≡ x / 2 ^ k % 2) g (same (x / 2 ^ (suc h - 1)) (y / 2 ^ (suc h - 1)) (bit (suc h) x) (bit (suc h) y) refl refl z)

-- numbers that differ in none of the last h settings, and in none before
pub dist_same : (h x y : ℕ) → y / 2 ^ h ≡ x / 2 ^ h → distance h x y ≡ 0 → y ≡ x
dist_same h x y q e = sym (split y h) ∙ ap₂ (λ (d r : ℕ). d * 2 ^ h + r) q (dist_zero h x y e) ∙ split x h

-- settings in which two numbers begin alike do not count
pub dist_begins : (g h x y : ℕ) → g ≤ h → y / 2 ^ g ≡ x / 2 ^ g → distance h x y ≡ distance g x y
unfolding distance bit
dist_begins g zero x y l q = let e : g ≡ 0 = omega arith in rw e
dist_begins g (suc h) x y l q = elim (tri g (suc h)) [
  | less i ↦ (
      let d : suc h - 1 ≡ h = omega arith in
      let b : bit (suc h) y ≡ bit (suc h) x = rw d (ap (λ (v : ℕ). eqb (v % 2) 1) (above g h x y (omega arith) q)) in
      rw (b, kept (bit (suc h) x), dist_begins g h x y (omega arith) q) (omega arith))
  | same i ↦ rw i
  | more i ↦ absurd (omega arith)
]

-- the distance is the count of ones of the exclusive or
pub dist_ones : (h x y : ℕ) → distance h x y ≡ ones (bit_xor x y % 2 ^ h)
unfolding distance ones ones_in indicator xor bit
dist_ones zero x y = let e : bit_xor x y % 2 ^ 0 ≡ 0 = omega arith in rw e
dist_ones (suc h) x y =
    omega (arith, dist_ones h x y, ap ones (last_digits h (bit_xor x y)), ones_cat h (bit_xor x y / 2 ^ h % 2 ^ 1) (bit_xor x y % 2 ^ h) (mod-lt (bit_xor x y) (pow_pos h)), digit)
  where
    one : (a b : ℕ) → a < 2 → b < 2 → ones (bit_xor a b) ≡ indicator (xor (eqb a 1) (eqb b 1))
    one zero zero p q = refl
    one zero (suc zero) p q = refl
    one (suc zero) zero p q = refl
    one (suc zero) (suc zero) p q = refl
    one zero (suc (suc b)) p q = absurd (omega arith)
    one (suc zero) (suc (suc b)) p q = absurd (omega arith)
    one (suc (suc a)) b p q = absurd (omega arith)

    digit : ones (bit_xor x y / 2 ^ h % 2 ^ 1) ≡ indicator (xor (bit (suc h) x) (bit (suc h) y))
    digit =
        let d : suc h - 1 ≡ h = omega arith in
        ap ones (ap (λ (z : ℕ). z % 2 ^ 1) (xor_shr x y h) ∙ xor_mod (x / 2 ^ h) (y / 2 ^ h) 1)
        ∙ one (x / 2 ^ h % 2) (y / 2 ^ h % 2) (mod-lt (x / 2 ^ h) (omega arith)) (mod-lt (y / 2 ^ h) (omega arith))
        ∙ rw d refl
