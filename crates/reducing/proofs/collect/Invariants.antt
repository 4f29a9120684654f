-- `reducing::collect` meets its contract. The loop's invariant: the nodes from `next` on are collected (`Collected`). Assumes nothing.
use mathlib.Core.Path.{◌≡◌}
use lib.ListN.{length}
use Rattle.words.specs.Words.{word_at}
use Rattle.reducing.specs.Steps.{Collects}
use Rattle.reducing.proofs.collect.Given as goal

abbrev pub invariant-loop-next : goal.invariant-loop-next
invariant-loop-next l =
    (length l.sheet ≡ length l.initial.sheet) × Collects l.few (word_at l.initial.sheet) (word_at l.sheet) l.p l.c l.h l.first l.end l.next

abbrev pub decreases-loop-next : goal.decreases-loop-next
decreases-loop-next l = l.next
