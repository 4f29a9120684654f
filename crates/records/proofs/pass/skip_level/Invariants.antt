-- `records::pass::skip_level` meets its contract. The loop's invariant: the records up to `at` pass if those up to k do, they ascend from k on, and what they name is marked. Assumes nothing.
use Prim.Native.Nat.{◌≤◌}
use mathlib.Core.Path.{◌≡◌}
use lib.ListN.{length}
use Rattle.words.specs.Words.{word_at}
use Rattle.records.specs.Inner.{PassFrom, Marked}
use Rattle.records.proofs.pass.skip_level.Given as goal

abbrev pub invariant-loop-at : goal.invariant-loop-at
invariant-loop-at l =
    (l.k ≤ l.at) × (l.at ≤ l.nodes) × (word_at l.table l.k ≤ l.before) × (l.before ≡ word_at l.table l.at) × PassFrom (word_at l.table) l.k l.at
    × (length l.marks ≡ length l.initial.marks) × Marked l.marks l.at (word_at l.table)
