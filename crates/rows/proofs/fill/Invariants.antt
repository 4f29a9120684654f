-- `rows::fill` meets its contract. The loop's invariant: the rows of nodes 0 to k stand for them. Assumes nothing.
use Rattle.std.proofs.Common.{◌≡◌, length}
use Rattle.rows.specs.Inner.{Rows}
use Rattle.rows.proofs.fill.Given as goal

abbrev pub invariant-loop-k : goal.invariant-loop-k
invariant-loop-k l = Rows l.table l.sheet l.m l.k × (length l.sheet ≡ length l.initial.sheet)
