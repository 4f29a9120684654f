-- `records::pass::check_records` meets its contract. The loop's invariant: the first k records pass, and what they name is marked. Assumes nothing.
use Prim.Native.Nat.{◌-◌, ◌≤◌}
use mathlib.Core.Path.{◌≡◌}
use lib.ListN.{length}
use Rattle.words.specs.Words.{word_at}
use Rattle.diagram.specs.Answer.{pass}
use Rattle.diagram.specs.Rules.{check_records}
use Rattle.records.specs.Inner.{Marked}
use Rattle.records.proofs.pass.check_records.Given as goal

abbrev pub invariant-loop-k : goal.invariant-loop-k
invariant-loop-k l = (l.k ≤ l.nodes) × (check_records (word_at l.table) l.n l.k ≡ pass) × (length l.marks ≡ length l.initial.marks) × Marked l.marks l.k (word_at l.table)

abbrev pub decreases-loop-k : goal.decreases-loop-k
decreases-loop-k l = l.nodes - l.k
