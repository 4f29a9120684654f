-- `numbering::give` meets its contract. Assumes nothing.
use native.Mathlib.Omega.{arith}
use borrow.Author.Tests.{true-eqb}
use Rattle.numbering.proofs.Keys.{flag_low, field_small, gave_edge}
use Rattle.numbering.proofs.give.Goals as goal

pub overflow_add-high : goal.overflow_add-high
overflow_add-high c = omega (arith, field_small _ _ _ _ c.from.ensures)

pub overflow_add-high-then-eq : goal.overflow_add-high-then-eq
overflow_add-high-then-eq c = omega (arith, field_small _ _ _ _ c.from.ensures, flag_low c.args.key.flag)

pub returns-then-eq : goal.returns-then-eq
returns-then-eq c =
    gave_edge _ _ _ _ _ _ _ _ _ _ c.if-key-eq0.false c.from.ensures (flag_low c.args.key.flag) (true-eqb _ _ c.if-eq.ensures) (rw (← c.from-then-eq.ensures) c.put_word.ensures)
