-- `exclusion::way::smallest_under` meets its contract. The loop's invariant: the settings chosen so far. Assumes nothing.
use Prim.Native.Nat.{◌/◌}
use Rattle.words.specs.Words.{word_at}
use Rattle.diagram.specs.Format.{height}
use Rattle.exclusion.proofs.Seeking.{Seeks}
use Rattle.exclusion.proofs.way.smallest_under.Given as goal

abbrev pub invariant-loop-edge : goal.invariant-loop-edge
invariant-loop-edge l = Seeks l.table l.initial.edge.value l.edge.value l.x.0

abbrev pub decreases-loop-edge : goal.decreases-loop-edge
decreases-loop-edge l = height (word_at l.table) (l.edge.value / 2)
