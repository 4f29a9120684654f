-- `carrying::number_carried` meets its contract. The loop's invariant: the nodes of the words before k have their numbers (`Placing`). Assumes nothing.
use mathlib.Core.Path.{◌≡◌}
use lib.ListN.{length}
use Rattle.words.specs.Words.{word_at}
use Rattle.carrying.proofs.Placing.{Placing}
use Rattle.carrying.proofs.number_carried.Given as goal

abbrev pub invariant-loop-k : goal.invariant-loop-k
invariant-loop-k l = (length l.sheet ≡ length l.initial.sheet) × Placing (word_at l.initial.sheet) (word_at l.sheet) l.p l.c l.end l.h l.r l.last l.k
