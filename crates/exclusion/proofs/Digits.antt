-- The number that turns over the last of some first digits. Assumes nothing.
use Prim.Native.Nat.{ℕ, ◌+◌, ◌-◌, ◌*◌, ◌/◌, ◌%◌, ◌^◌, ◌≤◌, ◌<◌}
use mathlib.Core.Path.{◌≡◌, refl, sym, ap, ◌∙◌}
use mathlib.Core.Bool.{Bool, true, false, not, cond}
use native.Mathlib.Nat.{mul_assoc, div-eq_of_lt-le}
use native.Mathlib.Omega.{arith}
use lib.Pow.{pow-add, shl-shr}
use lib.Dec.{eqb}
use borrow.Author.Tests.{eqb-true, eqb-false, eq-eqb, ne_eqb}
use Rattle.diagram.specs.Meaning.{bit}
use Rattle.diagram.proofs.Digits.{half}
use Rattle.exclusion.specs.Inner.{turned_at}

module _ (h : ℕ) (some : 0 < h) (x : ℕ) where
  abbrev digits : ℕ
  digits = x / 2 ^ (h - 1)

  -- the last digit turned over
  turned_digits : turned_at h x / 2 ^ (h - 1) ≡ cond (bit h x) (digits - 1) (digits + 1)
  unfolding turned_at
  turned_digits = shl-shr (cond (bit h x) (digits - 1) (digits + 1)) (h - 1)

  -- nothing stands behind it
  pub turned_whole : turned_at h x ≡ turned_at h x / 2 ^ (h - 1) * 2 ^ (h - 1)
  unfolding turned_at
  turned_whole = ap (λ (z : ℕ). z * 2 ^ (h - 1)) (sym turned_digits)

  turns : (d : ℕ) → (b : Bool) → eqb (d % 2) 1 ≡ b → (eqb (cond b (d - 1) (d + 1) % 2) 1 ≡ not b) × (cond b (d - 1) (d + 1) / 2 ≡ d / 2)
  turns d true p = let o = eqb-true (d % 2) 1 p in (ne_eqb ((d - 1) % 2) 1 (λ e. omega arith), omega arith)
  turns d false p = let o = eqb-false (d % 2) 1 p in (eq-eqb ((d + 1) % 2) 1 (omega arith), omega arith)

  pub turned_bit : bit h (turned_at h x) ≡ not (bit h x)
  unfolding bit
  turned_bit = ap (λ (d : ℕ). eqb (d % 2) 1) turned_digits ∙ (turns digits (bit h x) refl).0

  -- and what stands before it is the same
  pub turned_above : turned_at h x / 2 ^ h ≡ x / 2 ^ h
  unfolding bit
  turned_above = half h some (turned_at h x) ∙ ap (λ (d : ℕ). d / 2) turned_digits ∙ (turns digits (bit h x) refl).1 ∙ sym (half h some x)

-- numbers whose last h digits are 0
abbrev pub Whole : ℕ → ℕ → Type 0
Whole h x = x / 2 ^ h * 2 ^ h ≡ x

-- ... are whole by fewer digits too
module _ (j h x : ℕ) (l : j ≤ h) (whole : Whole h x) where
  as_digits : x ≡ x / 2 ^ h * 2 ^ (h - j) * 2 ^ j
  as_digits =
      let e : h - j + j ≡ h = omega arith in
      sym (mul_assoc (x / 2 ^ h) (2 ^ (h - j)) (2 ^ j) ∙ ap (λ (m : ℕ). x / 2 ^ h * m) (sym (pow-add 2 (h - j) j) ∙ ap (λ (g : ℕ). 2 ^ g) e) ∙ whole)

  whole_digits : x / 2 ^ j ≡ x / 2 ^ h * 2 ^ (h - j)
  whole_digits = ap (λ (m : ℕ). m / 2 ^ j) as_digits ∙ shl-shr (x / 2 ^ h * 2 ^ (h - j)) j

  pub whole_down : Whole j x
  whole_down = ap (λ (m : ℕ). m * 2 ^ j) whole_digits ∙ sym as_digits

-- x, h of whose last digits are 0
module _ (h x : ℕ) (some : 0 < h) (whole : Whole h x) where
  pub whole_bit : bit h x ≡ false
  unfolding bit
  whole_bit =
      let one : h - (h - 1) ≡ 1 = omega arith in
      let e : x / 2 ^ (h - 1) ≡ x / 2 ^ h * 2 = whole_digits (h - 1) h x (omega arith) whole ∙ ap (λ (g : ℕ). x / 2 ^ h * 2 ^ g) one in
      ne_eqb (x / 2 ^ (h - 1) % 2) 1 (λ o. omega arith)

  -- from x on to where the first of these is turned over, all begin as x does
  pub up_to_turned : (y : ℕ) → x ≤ y → y < turned_at h x → y / 2 ^ (h - 1) ≡ x / 2 ^ (h - 1)
  unfolding turned_at
  up_to_turned y l u =
      let q = whole_down (h - 1) h x (omega arith) whole in
      let end : y < (x / 2 ^ (h - 1) + 1) * 2 ^ (h - 1) = rw whole_bit at u in
      div-eq_of_lt-le (2 ^ (h - 1)) (omega (arith, q)) end
