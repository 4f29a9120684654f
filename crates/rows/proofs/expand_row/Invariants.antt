-- `rows::expand_row` meets its contract. The loop's invariant: the terms before i are summed. Assumes nothing.
use Rattle.rows.proofs.Summing.{Left}
use Rattle.rows.proofs.expand_row.Given as goal

abbrev pub invariant-loop-i : goal.invariant-loop-i
invariant-loop-i l = Left l.sheet l.at l.n l.m l.sum l.i
