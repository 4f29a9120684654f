-- `lists::order::count_below` meets its contract. The loop's invariant: the ranks from i on are not below c. Assumes nothing.
use Prim.Native.Nat.{ℕ, ◌≤◌, ◌<◌}
use Rattle.words.specs.Words.{word_at}
use Rattle.lists.proofs.order.count_below.Given as goal

abbrev pub invariant-loop-i : goal.invariant-loop-i
invariant-loop-i l = (j : ℕ) → l.i ≤ j → j < l.m → l.c ≤ word_at l.ranks j
