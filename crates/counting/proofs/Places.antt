-- What places hold. Assumes nothing.
use Prim.Native.Nat.{ℕ, ◌^◌, ◌≤◌, ◌<◌}
use mathlib.Core.Path.{◌≡◌, refl}
use native.Mathlib.Omega.{arith}
use native.Mathlib.Nat.{lt_of_le_of_lt}
use lib.Pow.{pow-lt}
use Rattle.diagram.specs.Format.{Words, height}
use Rattle.diagram.specs.Meaning.{plain, holds}
use Rattle.diagram.specs.Count.{indicator, count_below, place}
use Rattle.diagram.specs.Reading.{share}
use Rattle.diagram.proofs.CountLaws.{count_le}

-- a node's share is at most the setups counted
pub share_le : (w : Words) (k : ℕ) → share w k ≤ 2 ^ 63
unfolding share
share_le w k = count_le (plain w k) (2 ^ 63)

-- ... and so is its count, which fits 64 bits
pub place_fits : (w : Words) (k : ℕ) → height w k ≤ 63 → place w k < 18446744073709551616
unfolding place
place_fits w k l = lt_of_le_of_lt (count_le (plain w k) (2 ^ height w k)) (pow-lt {i = height w k} {j = 64} (omega arith))

-- the count of the sink
pub place_sink : (w : Words) → place w 0 ≡ 1
unfolding place count_below plain holds height indicator
place_sink w = refl
