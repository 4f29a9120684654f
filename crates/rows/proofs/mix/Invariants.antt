-- `rows::mix` meets its contract. The loop's invariant: i entries are mixed. Assumes nothing.
use Rattle.std.proofs.Common.{◌≡◌, length}
use Rattle.rows.specs.Inner.{Mixes}
use Rattle.rows.proofs.mix.Given as goal

abbrev pub invariant-loop-i : goal.invariant-loop-i
invariant-loop-i l = Mixes l.initial.sheet l.sheet l.to l.high l.plus l.minus l.i × (length l.sheet ≡ length l.initial.sheet)
