-- `reducing::link` meets its contract. The loop's invariant: the nodes before i are in their lists (`Linked`). Assumes nothing.
use mathlib.Core.Path.{◌≡◌}
use lib.ListN.{length}
use Rattle.words.specs.Words.{word_at}
use Rattle.reducing.specs.Inner.{height_of}
use Rattle.reducing.specs.Steps.{Linked}
use Rattle.reducing.proofs.link.Given as goal

abbrev pub invariant-loop-i : goal.invariant-loop-i
invariant-loop-i l =
    (length l.sheet ≡ length l.initial.sheet) × Linked (height_of (word_at l.initial.sheet) l.p) (word_at l.initial.sheet) (word_at l.sheet) l.heads l.p l.i
