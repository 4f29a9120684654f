-- `naming::ready_all` meets its contract. The loop's invariant: the first i pairs are made ready (`AllReady`). Assumes nothing.
use mathlib.Core.Path.{◌≡◌}
use lib.ListN.{length}
use Rattle.words.specs.Words.{word_at}
use Rattle.naming.specs.Inner.{AllReady}
use Rattle.naming.proofs.ready_all.Given as goal

abbrev pub invariant-loop-i : goal.invariant-loop-i
invariant-loop-i l = (length l.sheet ≡ length l.initial.sheet) × AllReady l.op (word_at l.table1) (word_at l.table2) (word_at l.initial.sheet) (word_at l.sheet) l.p l.i
