-- `compiling::copy_records` meets its contract. The loop's invariant: the first k records are copied (`HoldsTable`). Assumes nothing.
use mathlib.Core.Path.{◌≡◌}
use lib.ListN.{length}
use Rattle.words.specs.Words.{word_at}
use Rattle.compiling.specs.Inner.{HoldsTable}
use Rattle.compiling.proofs.copy_records.Given as goal

abbrev pub invariant-loop-k : goal.invariant-loop-k
invariant-loop-k l = (length l.out ≡ length l.initial.out) × HoldsTable (word_at l.sheet) l.k (word_at l.initial.out 0) l.out
