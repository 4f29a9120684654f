-- `records::names::all_marked` meets its contract. The loop's invariant: nodes 1 to k - 1 have marks, if `all` says so. Assumes nothing.
use Prim.Native.Nat.{◌+◌, ◌-◌, ◌≤◌}
use mathlib.Core.Path.{◌≡◌}
use mathlib.Core.Bool.{true}
use Rattle.diagram.specs.Answer.{pass}
use Rattle.records.specs.Inner.{check_marks}
use Rattle.records.proofs.names.all_marked.Given as goal

abbrev pub invariant-loop-k : goal.invariant-loop-k
invariant-loop-k l = (l.k ≤ l.last + 1) × (l.all ≡ true → check_marks l.marks (l.k - 1) ≡ pass)
