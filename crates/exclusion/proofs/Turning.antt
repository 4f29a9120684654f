-- A setting turned over, in the terms of the code. Assumes nothing.
use Prim.Native.Nat.{ℕ, ◌+◌, ◌-◌, ◌*◌, ◌/◌, ◌%◌, ◌^◌, ◌≤◌, ◌<◌}
use mathlib.Core.Path.{◌≡◌, ap, ◌∙◌}
use native.Mathlib.Nat.{div-le_self, mod-eq_of_lt}
use native.Mathlib.Omega.{arith}
use borrow.Author.Tests.{eq-eqb, ne_eqb}
use Rattle.diagram.specs.Meaning.{bit}
use Rattle.diagram.proofs.Digits.{fits}
use Rattle.exclusion.specs.Inner.{turned_at}
use Rattle.exclusion.proofs.Digits.{turned_above}

module _ (h x : ℕ) (some : 0 < h) (few : h ≤ 63) (small : x < 2 ^ 63) where
  -- it fits 64 bits
  shifted : (m : ℕ) → m ≡ turned_at h x → m % 18446744073709551616 ≡ turned_at h x
  shifted m q = ap (λ (a : ℕ). a % 18446744073709551616) q ∙ mod-eq_of_lt (omega (arith, fits h 63 x (turned_at h x) few small (turned_above h some x)))

  -- the setting was on
  pub turned_off : x / 2 ^ (h - 1) % 2 ≡ 1 → (x / 2 ^ (h - 1) - 1) * 2 ^ (h - 1) % 18446744073709551616 ≡ turned_at h x
  unfolding turned_at bit
  turned_off q = shifted ((x / 2 ^ (h - 1) - 1) * 2 ^ (h - 1)) (rw (eq-eqb (x / 2 ^ (h - 1) % 2) 1 q))

  -- it was off
  pub next_fits : x / 2 ^ (h - 1) + 1 < 18446744073709551616
  next_fits = omega (arith, div-le_self x (2 ^ (h - 1)), small)

  pub turned_on : (x / 2 ^ (h - 1) % 2 ≡ 1 → ⊥) → (x / 2 ^ (h - 1) + 1) * 2 ^ (h - 1) % 18446744073709551616 ≡ turned_at h x
  unfolding turned_at bit
  turned_on q = shifted ((x / 2 ^ (h - 1) + 1) * 2 ^ (h - 1)) (rw (ne_eqb (x / 2 ^ (h - 1) % 2) 1 q))
