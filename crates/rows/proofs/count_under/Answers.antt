-- `rows::count_under` meets its contract: half of all setups with m on and of what the row comes to. Assumes nothing.
use Rattle.std.proofs.Common.{arith}
use Rattle.rows.proofs.Counting.{counts_plain, counts_flagged}
use Rattle.rows.proofs.count_under.Goals as goal

pub returns-then-flagged : goal.returns-then-flagged
returns-then-flagged c =
    counts_flagged _ _ _ _ _ c.node.ensures _ _ c.expand_row-sum.ensures c.coefficient-all.ensures _ c.flagged.ensures c.if-flagged.true (omega arith)

pub returns-else-flagged : goal.returns-else-flagged
returns-else-flagged c =
    counts_plain _ _ _ _ _ c.node.ensures _ _ c.expand_row-sum.ensures c.coefficient-all.ensures _ c.flagged.ensures c.if-flagged.false
