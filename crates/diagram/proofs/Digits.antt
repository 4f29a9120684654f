-- Numbers that agree in their first digits. Assumes nothing.
use Prim.Native.Nat.{ℕ, ◌+◌, ◌-◌, ◌*◌, ◌/◌, ◌%◌, ◌^◌, ◌≤◌, ◌<◌}
use mathlib.Core.Path.{◌≡◌, refl, sym, ap, ◌∙◌}
use mathlib.Core.Bool.{Bool, true, false}
use native.Mathlib.Nat.{div-eq_of_lt, lt-div-mul-add}
use native.Mathlib.Omega.{arith}
use lib.Pow.{pow_pos, shr-shr}
use lib.Dec.{eqb}
use borrow.Author.Tests.{eqb-true, eqb-false}
use Rattle.diagram.specs.Meaning.{bit}

-- numbers that agree but for the last h digits agree but for more
pub above : (h H x y : ℕ) → h ≤ H → y / 2 ^ h ≡ x / 2 ^ h → y / 2 ^ H ≡ x / 2 ^ H
above h H x y l q = sym (split y) ∙ ap (λ (z : ℕ). z / 2 ^ (H - h)) q ∙ split x
  where
    split : (z : ℕ) → z / 2 ^ h / 2 ^ (H - h) ≡ z / 2 ^ H
    split z = let e : h + (H - h) ≡ H = omega arith in shr-shr z h (H - h) ∙ ap (λ (g : ℕ). z / 2 ^ g) e

-- ... and are numbers of n digits together
pub fits : (h n x y : ℕ) → h ≤ n → x < 2 ^ n → y / 2 ^ h ≡ x / 2 ^ h → y < 2 ^ n
fits h n x y l i q =
    let none : y / 2 ^ n * 2 ^ n ≡ 0 * 2 ^ n = ap (λ (z : ℕ). z * 2 ^ n) (above h n x y l q ∙ div-eq_of_lt i) in
    omega (arith, none, lt-div-mul-add {a = y} {b = 2 ^ n} (pow_pos n))

module _ (h : ℕ) (some : 0 < h) where
  -- one digit less
  pub half : (x : ℕ) → x / 2 ^ h ≡ x / 2 ^ (h - 1) / 2
  half x = let e : h - 1 + 1 ≡ h = omega arith in sym (shr-shr x (h - 1) 1 ∙ ap (λ (g : ℕ). x / 2 ^ g) e)

  -- one digit more, where that is the same
  pub same_digit : (x y : ℕ) → y / 2 ^ h ≡ x / 2 ^ h → bit h y ≡ bit h x → y / 2 ^ (h - 1) ≡ x / 2 ^ (h - 1)
  unfolding bit
  same_digit x y q b = go (y / 2 ^ (h - 1)) (x / 2 ^ (h - 1)) (sym (half y) ∙ q ∙ half x) (eqb (x / 2 ^ (h - 1) % 2) 1) refl b
    where
      go : (c d : ℕ) → c / 2 ≡ d / 2 → (a : Bool) → eqb (d % 2) 1 ≡ a → eqb (c % 2) 1 ≡ eqb (d % 2) 1 → c ≡ d
      go c d e true p r = let s = eqb-true (c % 2) 1 (r ∙ p) in let t = eqb-true (d % 2) 1 p in omega arith
      go c d e false p r = let s = eqb-false (c % 2) 1 (r ∙ p) in let t = eqb-false (d % 2) 1 p in omega arith
