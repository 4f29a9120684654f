-- Counting by rows of at most 64 places. Assumes nothing.
use Prim.Native.Nat.{ℕ, ◌+◌, ◌*◌, ◌≤◌}
use mathlib.Core.List.{List}
use native.Mathlib.Omega.{arith}
use native.Mathlib.Nat.{mul-le-mul_right}
use lib.ListN.{length}
use Rattle.counting.specs.Inner.{Countable}
use Rattle.rows.specs.Inner.{Fillable}
use Rattle.weighing.specs.Operations.{needed}

-- 64 places for each node are enough for rows of m + 1
pub fillable : (t s : List ℕ) (n N e m : ℕ) → Countable t s n N e → 8 * needed N ≤ length s → m ≤ 63 → Fillable t s n N m
fillable t s n N e m C room few =
    let q : m + 1 ≤ 64 = omega arith in
    record { holds = C.holds; reduced = C.reduced; few = few; room = omega (arith, mul-le-mul_right (N + 1) q) }
