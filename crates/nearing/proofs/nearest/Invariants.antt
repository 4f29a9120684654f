-- `nearing::nearest` meets its contract. The loop's invariant: what is nearest from the edge reached on is nearest from the first one on. Assumes nothing.
use Prim.Native.Nat.{◌/◌}
use Rattle.words.specs.Words.{word_at}
use Rattle.diagram.specs.Format.{height}
use Rattle.nearing.proofs.Going.{Goes}
use Rattle.nearing.proofs.nearest.Given as goal

abbrev pub invariant-loop-edge : goal.invariant-loop-edge
invariant-loop-edge l = Goes l.table l.initial.edge.value l.initial.y.0 l.edge.value l.y.0

abbrev pub decreases-loop-edge : goal.decreases-loop-edge
decreases-loop-edge l = height (word_at l.table) (l.edge.value / 2)
