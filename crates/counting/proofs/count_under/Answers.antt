-- `counting::count_under` meets its contract: the edge's share, shifted. Assumes nothing.
use Rattle.counting.proofs.Shares.{counts_under}
use Rattle.counting.proofs.count_under.Goals as goal

pub returns : goal.returns
returns c = counts_under _ _ _ _ c.share_of.ensures
