-- `gathering::gather` meets its contract: the marks are taken away, nodes are met, and laid. Assumes nothing.
use mathlib.Core.Path.{◌∙◌}
use Rattle.gathering.proofs.Meeting.{within_place}
use Rattle.gathering.proofs.Reaching.{all_reached}
use Rattle.gathering.proofs.gather.Goals as goal

pub returns : goal.returns
returns c =
    let p = c.requires in
    let r = c.reach.ensures in
    let l = c.lay_all.ensures in
    (l.long ∙ r.0 ∙ c.clear.ensures.0, all_reached _ _ _ p.1 (within_place _ _ _ p.1) _ _ r.1 l)
