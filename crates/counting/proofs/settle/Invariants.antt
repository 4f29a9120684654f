-- `counting::settle` meets its contract. The loop's invariant: the places below k hold the counts. Assumes nothing.
use Prim.Native.Nat.{◌+◌, ◌≤◌}
use mathlib.Core.Path.{◌≡◌}
use Rattle.words.specs.Words.{word_at, words_over}
use Rattle.diagram.specs.Count.{place}
use Rattle.counting.proofs.settle.Given as goal

abbrev pub invariant-loop-k : goal.invariant-loop-k
invariant-loop-k l = (l.k ≤ l.nodes + 1) × (l.sheet ≡ words_over (place (word_at l.table)) l.k l.initial.sheet)
