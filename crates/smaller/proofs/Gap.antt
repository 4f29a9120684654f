-- The numbers below y in blocks of 2 ^ g, in the terms of the code: whole blocks of `block` each, and `inside` in the last one. Assumes nothing.
use Prim.Native.Nat.{ℕ, ◌+◌, ◌-◌, ◌*◌, ◌/◌, ◌%◌, ◌^◌, ◌≤◌, ◌<◌}
use mathlib.Core.Path.{◌≡◌}
use mathlib.Core.Bool.{Bool, true, false}
use native.Mathlib.Omega.{arith}
use native.Mathlib.Nat.{mul-le-mul_left, div-add-mod'}
use lib.Dec.{eqb}
use Rattle.diagram.specs.Reading.{opposite}
use Rattle.diagram.proofs.Edges.{opposite_set, opposite_clear}
use Rattle.diagram.proofs.Bits.{one_shl}

module _ (y g block inside e : ℕ) (few : g ≤ 63) (block-le : block ≤ 2 ^ g) (inside-le : inside ≤ y % 2 ^ g) (fits : y < 18446744073709551616) where
  whole : y / 2 ^ g * block + y % 2 ^ g ≤ y
  whole = omega (arith, mul-le-mul_left (y / 2 ^ g) block-le, div-add-mod' y (2 ^ g))

  pub product_fits : y / 2 ^ g * block < 18446744073709551616
  product_fits = omega (arith, whole)

  pub inside_rest : inside ≤ y % (1 * 2 ^ g % 18446744073709551616)
  inside_rest = rw (one_shl g few) inside-le

  pub flagged_fits : y / 2 ^ g * block + (y % (1 * 2 ^ g % 18446744073709551616) - inside) < 18446744073709551616
  flagged_fits = rw (one_shl g few) (omega (arith, whole))

  pub plain_fits : y / 2 ^ g * block + inside < 18446744073709551616
  plain_fits = omega (arith, whole)

  module _ (f : Bool) (f-is : f ≡ eqb (e % 2) 1) where
    pub flagged_is : f ≡ true → y / 2 ^ g * block + (y % (1 * 2 ^ g % 18446744073709551616) - inside) ≡ y / 2 ^ g * block + opposite (e % 2) (y % 2 ^ g) inside
    flagged_is q = rw (one_shl g few, opposite_set e f f-is q (y % 2 ^ g) inside)

    pub plain_is : f ≡ false → y / 2 ^ g * block + inside ≡ y / 2 ^ g * block + opposite (e % 2) (y % 2 ^ g) inside
    plain_is q = rw (opposite_clear e f f-is q (y % 2 ^ g) inside)
