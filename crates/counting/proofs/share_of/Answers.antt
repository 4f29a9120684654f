-- `counting::share_of` meets its contract: the node's share, or the others. Assumes nothing.
use borrow.Author.Rules.{rules}
use Rattle.counting.proofs.Shares.{share_most, share_plain, share_flagged}
use Rattle.counting.proofs.share_of.Goals as goal

pub overflow_sub-result : goal.overflow_sub-result
overflow_sub-result c =
    share_most _ _ _ _ c.node.ensures (search rules) c.load-s.ensures _ c.requires.1.filled

pub returns-then-flagged : goal.returns-then-flagged
returns-then-flagged c =
    share_flagged _ _ _ _ c.node.ensures (search rules) c.load-s.ensures _ c.flagged.ensures c.if-flagged.true

pub returns-else-flagged : goal.returns-else-flagged
returns-else-flagged c =
    share_plain _ _ _ _ c.node.ensures (search rules) c.load-s.ensures _ c.flagged.ensures c.if-flagged.false
