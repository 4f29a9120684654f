-- The counts by settings on beside the count of all, in the words of request 11. Assumes nothing.
use Rattle.std.specs.Prelude.{suc, ◌≡◌}
use Rattle.diagram.specs.Format.{Words, settings}
use Rattle.diagram.specs.Count.{total}
use Rattle.pascal.specs.Ones.{sum}
use Rattle.weighing.specs.Operations.{total_on}

-- the counts over all m from 0 to n add up to C, of any table
abbrev pub AddUp : Type 0
AddUp = (w : Words) → sum (total_on w) (suc (settings w)) ≡ total w
