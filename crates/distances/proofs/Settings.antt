-- A number with one setting on or off, or with other settings from one on. Assumes nothing.
use Prim.Native.Nat.{ℕ, ◌+◌, ◌-◌, ◌*◌, ◌/◌, ◌%◌, ◌^◌, ◌≤◌, ◌<◌}
use mathlib.Core.Path.{◌≡◌, refl, sym, ap, ap₂, subst, ◌∙◌}
use mathlib.Core.Bool.{Bool, true, false}
use native.Mathlib.Nat.{mod-lt, mod-eq_of_lt, mul-le-mul_right}
use native.Mathlib.Omega.{arith}
use lib.Dec.{eqb}
use lib.Pow.{pow_pos, shr_le, split, high, low, mod-mod-pow}
use mir.Val.{bool_byte}
use borrow.Author.Tests.{eq-eqb, ne_eqb, eqb-true, eqb-false}
use Rattle.diagram.specs.Meaning.{bit}
use Rattle.diagram.specs.Count.{indicator}
use Rattle.diagram.proofs.CountLaws.{indicator_le}
use Rattle.diagram.proofs.Bits.{one_shl, bool_byte_lem}
use Rattle.diagram.proofs.Digits.{half, same_digit, fits}
use Rattle.distances.specs.Inner.{set_at, joined}

module _ (b : Bool) (h x : ℕ) (some : 0 < h) where
  digits : set_at b h x / 2 ^ (h - 1) ≡ x / 2 ^ h * 2 + indicator b
  unfolding set_at
  digits = high (x / 2 ^ h * 2 + indicator b) (h - 1) (mod-lt x (pow_pos (h - 1)))

  -- the settings behind it are those of x
  pub set_ends : set_at b h x % 2 ^ (h - 1) ≡ x % 2 ^ (h - 1)
  unfolding set_at
  set_ends = low (x / 2 ^ h * 2 + indicator b) (h - 1) (mod-lt x (pow_pos (h - 1)))

  -- the setting itself
  pub set_bit : bit h (set_at b h x) ≡ b
  unfolding bit indicator
  set_bit = ap (λ (d : ℕ). eqb (d % 2) 1) digits ∙ last (x / 2 ^ h) b
    where
      last : (q : ℕ) (c : Bool) → eqb ((q * 2 + indicator c) % 2) 1 ≡ c
      last q true = eq-eqb ((q * 2 + 1) % 2) 1 (omega arith)
      last q false = ne_eqb ((q * 2 + 0) % 2) 1 (λ e. omega arith)

  -- and those before it
  pub set_begins : set_at b h x / 2 ^ h ≡ x / 2 ^ h
  unfolding indicator
  set_begins = half h some (set_at b h x) ∙ ap (λ (d : ℕ). d / 2) digits ∙ first (x / 2 ^ h) b
    where
      first : (q : ℕ) (c : Bool) → (q * 2 + indicator c) / 2 ≡ q
      first q true = omega arith
      first q false = omega arith

  -- a number that begins as x does and has the setting so begins with it
  pub begins_set : (z : ℕ) → z / 2 ^ h ≡ x / 2 ^ h → bit h z ≡ b → z / 2 ^ (h - 1) ≡ set_at b h x / 2 ^ (h - 1)
  begins_set z q p = same_digit h some (set_at b h x) z (q ∙ sym set_begins) (p ∙ sym set_bit)

  -- and has it, if it begins so
  pub set_same : (z : ℕ) → z / 2 ^ (h - 1) ≡ set_at b h x / 2 ^ (h - 1) → bit h z ≡ b
  unfolding bit
  set_same z q = ap (λ (d : ℕ). eqb (d % 2) 1) q ∙ set_bit

  pub set_fits : (n : ℕ) → h ≤ n → x < 2 ^ n → set_at b h x < 2 ^ n
  set_fits n l f = fits h n x (set_at b h x) l f set_begins

-- numbers that end alike by more settings do by fewer
pub ends_less : (g h y z : ℕ) → g ≤ h → y % 2 ^ h ≡ z % 2 ^ h → y % 2 ^ g ≡ z % 2 ^ g
ends_less g h y z l q = sym (fewer y) ∙ ap (λ (r : ℕ). r % 2 ^ g) q ∙ fewer z
  where
    fewer : (v : ℕ) → v % 2 ^ h % 2 ^ g ≡ v % 2 ^ g
    fewer v = let e : (h - g) + g ≡ h = omega arith in subst (λ (k : ℕ). v % 2 ^ k % 2 ^ g ≡ v % 2 ^ g) e (mod-mod-pow v (h - g) g)

-- the first settings of one number, and the last of another
module _ (h x z : ℕ) where
  pub joined_begins : joined h x z / 2 ^ h ≡ x / 2 ^ h
  unfolding joined
  joined_begins = high (x / 2 ^ h) h (mod-lt z (pow_pos h))

  pub joined_ends : joined h x z % 2 ^ h ≡ z % 2 ^ h
  unfolding joined
  joined_ends = low (x / 2 ^ h) h (mod-lt z (pow_pos h))

-- set as it is
pub set_own : (h x : ℕ) → 0 < h → set_at (bit h x) h x ≡ x
set_own h x some =
    let y = set_at (bit h x) h x in
    sym (split y (h - 1)) ∙ ap₂ (λ (d r : ℕ). d * 2 ^ (h - 1) + r) (sym (begins_set (bit h x) h x some x refl refl)) (set_ends (bit h x) h x some) ∙ split x (h - 1)

-- of two numbers that begin alike, the one with the next setting off is smaller
pub off_before : (h y z : ℕ) → 0 < h → y / 2 ^ h ≡ z / 2 ^ h → bit h y ≡ false → bit h z ≡ true → y ≤ z
unfolding bit
off_before h y z some q p r =
    let m = 2 ^ (h - 1) in
    let a = eqb-false (y / m % 2) 1 p in
    let b = eqb-true (z / m % 2) 1 r in
    let l : y / m + 1 ≤ z / m = omega (arith, half h some y, half h some z) in
    omega (arith, split y (h - 1), split z (h - 1), mod-lt y (pow_pos (h - 1)), mul-le-mul_right m l)

-- in the terms of the code: the number with one setting set
module _ (b : Bool) (h x : ℕ) (some : 0 < h) (few : h ≤ 63) (small : x < 2 ^ 63) (d : ℕ) (d-is : d ≡ bool_byte b) where
  digit_is : d ≡ indicator b
  digit_is = d-is ∙ bool_byte_lem b

  pub before_fits : x / 2 ^ h * 2 + d < 18446744073709551616
  before_fits = omega (arith, shr_le x h, digit_is, indicator_le b)

  all_fits : set_at b h x < 2 ^ 63
  all_fits = set_fits b h x some 63 few small

  shifted : (x / 2 ^ h * 2 + d) * 2 ^ (h - 1) % 18446744073709551616 ≡ (x / 2 ^ h * 2 + indicator b) * 2 ^ (h - 1)
  unfolding set_at
  shifted = rw digit_is (mod-eq_of_lt (omega (arith, all_fits)))

  pub set_code : (x / 2 ^ h * 2 + d) * 2 ^ (h - 1) % 18446744073709551616 + x % (1 * 2 ^ (h - 1) % 18446744073709551616) ≡ set_at b h x
  unfolding set_at
  set_code = rw (shifted, one_shl (h - 1) (omega arith))

  pub sum_fits : (x / 2 ^ h * 2 + d) * 2 ^ (h - 1) % 18446744073709551616 + x % (1 * 2 ^ (h - 1) % 18446744073709551616) < 18446744073709551616
  sum_fits = rw set_code (omega (arith, all_fits))
