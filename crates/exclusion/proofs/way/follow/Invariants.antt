-- `exclusion::way::follow` meets its contract. The loop's invariant: the way has reached an edge. Assumes nothing.
use Prim.Native.Nat.{◌/◌}
use Rattle.words.specs.Words.{word_at}
use Rattle.diagram.specs.Format.{height}
use Rattle.exclusion.proofs.Following.{Reaches}
use Rattle.exclusion.proofs.way.follow.Given as goal

abbrev pub invariant-loop-x : goal.invariant-loop-x
invariant-loop-x l = Reaches l.table l.n l.initial.way.edge.value l.x.0 l.way.edge.value l.way.height l.way.other.value

abbrev pub decreases-loop-x : goal.decreases-loop-x
decreases-loop-x l = height (word_at l.table) (l.way.edge.value / 2)
