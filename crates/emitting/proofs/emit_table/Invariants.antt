-- `emitting::emit_table` meets its contract. The loop's invariant: the new records of the nodes before v are written (`HoldsRecords`). Assumes nothing.
use Prim.Native.Nat.{◌+◌, ◌-◌, ◌≤◌}
use Rattle.words.specs.Words.{word_at}
use Rattle.cutting.specs.Behind.{words_of}
use Rattle.emitting.specs.Emitting.{HoldsRecords}
use Rattle.emitting.proofs.emit_table.Given as goal

abbrev pub invariant-loop-v : goal.invariant-loop-v
invariant-loop-v l = (l.v ≤ l.cut.nodes + 1) × HoldsRecords (words_of l.cut) (word_at l.map) (l.v - 1) (word_at l.initial.out 0) l.out
