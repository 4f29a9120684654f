-- `marking::mark` meets its contract. The loop's invariant: what is marked above node v leads to what is marked (`Marking`). Assumes nothing.
use Prim.Native.Nat.{◌/◌}
use Rattle.words.specs.Words.{word_at}
use Rattle.cutting.specs.Behind.{words_of, last_of}
use Rattle.marking.proofs.Marking.{Marking}
use Rattle.marking.proofs.mark.Given as goal

abbrev pub invariant-loop-v : goal.invariant-loop-v
invariant-loop-v l = Marking (words_of l.cut) (word_at l.map) (last_of l.cut) (l.fn.root.value / 2) l.v
