-- `gathering::reach` meets its contract. The loop's invariant: what the first i nodes lead to is met (`Met`), from whatever root. Assumes nothing.
use Prim.Native.Nat.{ℕ, ◌-◌, ◌<◌}
use mathlib.Core.Path.{◌≡◌}
use lib.ListN.{length}
use Rattle.words.specs.Words.{word_at}
use Rattle.gathering.specs.Inner.{mark, Met}
use Rattle.gathering.proofs.reach.Given as goal

abbrev pub invariant-loop-i : goal.invariant-loop-i
invariant-loop-i l =
    (length l.sheet ≡ length l.initial.sheet) × ((root : ℕ) → root < l.p → Met (word_at l.table) l.initial.sheet l.p 0 l.initial.count root → mark l.initial.sheet l.p root ≡ 1 → Met (word_at l.table) l.sheet l.p l.i l.count root × (mark l.sheet l.p root ≡ 1))

abbrev pub decreases-loop-i : goal.decreases-loop-i
decreases-loop-i l = l.p - l.i
