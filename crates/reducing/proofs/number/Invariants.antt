-- `reducing::number` meets its contract. The loop's invariant: the nodes from `next` on are numbered (`Counted`). Assumes nothing.
use mathlib.Core.Path.{◌≡◌}
use lib.ListN.{length}
use Rattle.words.specs.Words.{word_at}
use Rattle.reducing.specs.Steps.{Counts}
use Rattle.reducing.proofs.number.Given as goal

abbrev pub invariant-loop-next : goal.invariant-loop-next
invariant-loop-next l = (length l.sheet ≡ length l.initial.sheet) × Counts (word_at l.initial.sheet) (word_at l.sheet) l.p l.c l.end l.h l.first l.next

abbrev pub decreases-loop-next : goal.decreases-loop-next
decreases-loop-next l = l.next
