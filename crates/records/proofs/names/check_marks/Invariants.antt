-- `records::names::check_marks` meets its contract. The loop's invariant: nodes 1 to k - 1 have marks. Assumes nothing.
use Prim.Native.Nat.{◌+◌, ◌-◌, ◌≤◌}
use mathlib.Core.Path.{◌≡◌}
use Rattle.diagram.specs.Answer.{pass}
use Rattle.records.specs.Inner.{check_marks}
use Rattle.records.proofs.names.check_marks.Given as goal

abbrev pub invariant-loop-k : goal.invariant-loop-k
invariant-loop-k l = (l.k ≤ l.last + 1) × (check_marks l.marks (l.k - 1) ≡ pass)
