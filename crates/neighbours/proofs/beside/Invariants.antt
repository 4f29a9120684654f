-- `neighbours::beside` meets its contract. The loop's invariant: what is found from the edge reached on is nearest from the first one on. Assumes nothing.
use Prim.Native.Nat.{◌/◌}
use Rattle.words.specs.Words.{word_at}
use Rattle.diagram.specs.Format.{height}
use Rattle.neighbours.proofs.Seeking.{Seeks}
use Rattle.neighbours.proofs.beside.Given as goal

abbrev pub invariant-loop-x : goal.invariant-loop-x
invariant-loop-x l = Seeks l.table l.initial.edge.value l.x.0 l.edge.value l.best

abbrev pub decreases-loop-x : goal.decreases-loop-x
decreases-loop-x l = height (word_at l.table) (l.edge.value / 2)
