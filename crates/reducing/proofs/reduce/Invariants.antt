-- `reducing::reduce` meets its contract. The loop's invariant: the nodes below height h are numbered (`Staged`), whatever nodes stood there before. Assumes nothing.
use Prim.Native.Nat.{◌+◌, ◌-◌, ◌≤◌}
use mathlib.Core.Path.{◌≡◌}
use lib.ListN.{length}
use Rattle.words.specs.Words.{word_at}
use Rattle.reducing.specs.Steps.{Nodes, Staged}
use Rattle.reducing.proofs.Stages.{Begin}
use Rattle.reducing.proofs.reduce.Given as goal

abbrev pub invariant-loop-h : goal.invariant-loop-h
invariant-loop-h l =
    (l.h ≤ l.n + 1) × (l.c ≤ 65535) × (length l.sheet ≡ length l.initial.sheet)
    × ((D : Nodes) → D.count ≡ l.count → Staged D (word_at l.initial.sheet) l.p 0 0 → Begin D l.heads → Staged D (word_at l.sheet) l.p l.c (l.h - 1))
