-- `carrying::word_of` meets its contract. Assumes nothing.
use Prim.Native.Nat.{◌<◌}
use native.Mathlib.Omega.{arith}
use Rattle.diagram.proofs.Edges.{turn_lt}
use Rattle.carrying.specs.Words.{key_of, carry}
use Rattle.carrying.proofs.word_of.Goals as goal
use Rattle.carrying.proofs.word_of.Goals.{After-turned_by}

-- the turned edge fits
turned : (c : After-turned_by) → c.turned_by.result.value < 131072
turned c = rw c.turned_by.ensures (turn_lt _ _ 65536 c.requires.2)

-- and so does the node
low : (c : After-turned_by) → c.args.i < 65536
low c = c.requires.3 c.if-few.true

pub overflow_add-key : goal.overflow_add-key
overflow_add-key c = omega (arith, turned (goal.at.overflow_add-key c).After-turned_by)

pub overflow_mul-result : goal.overflow_mul-result
overflow_mul-result c = omega (arith, turned (goal.at.overflow_mul-result c).After-turned_by)

pub overflow_add-result : goal.overflow_add-result
overflow_add-result c = omega (arith, turned (goal.at.overflow_add-result c).After-turned_by)

pub overflow_add-result-then-few : goal.overflow_add-result-then-few
overflow_add-result-then-few c = omega (arith, turned (goal.at.overflow_add-result-then-few c).After-turned_by, low (goal.at.overflow_add-result-then-few c).After-turned_by)

pub returns-then-few : goal.returns-then-few
unfolding carry key_of
returns-then-few c =
    rw (c.if-few.true, ← c.turned_by.ensures)
