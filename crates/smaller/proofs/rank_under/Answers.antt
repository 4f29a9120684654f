-- `smaller::rank_under` meets its contract. Assumes nothing.
use Rattle.counting.specs.Inner.{Opens}
use Rattle.smaller.proofs.Below.{node_room, edge_opens, some_block, node_opens, gap_opens, edge_sum}
use Rattle.smaller.proofs.rank_under.Goals as goal
use Rattle.smaller.proofs.rank_under.Goals.{After-height_at-g}

pub height_at-g-requires : goal.height_at-g-requires
height_at-g-requires c = node_room _ _ _ _ 0 c.requires c.node-node.ensures

-- where the node's height is read: the edge can be counted from there
opens : (c : After-height_at-g) → let a = c.args in Opens a.table.now a.sheet.now a.e.value c.height_at-g.result
opens c = edge_opens _ _ _ _ 0 c.requires c.node-node.ensures _ c.height_at-g.ensures.0

pub count_under-block-requires : goal.count_under-block-requires
count_under-block-requires c = (_, opens c)

pub nonzero_rem-x : goal.nonzero_rem-x
nonzero_rem-x c = some_block _ _ _ _ 0 c.requires c.node-node.ensures _ c.height_at-g.ensures.0

pub rank_at-inside-requires : goal.rank_at-inside-requires
rank_at-inside-requires c = node_opens _ _ _ _ _ c.requires c.node-node.ensures _ c.height_at-g.ensures.0

pub across_gap-requires : goal.across_gap-requires
across_gap-requires c = gap_opens _ _ _ _ _ c.requires c.node-node.ensures _ c.height_at-g.ensures.0 _ _ (c.count_under-block.ensures _ (opens (goal.at.across_gap-requires c).After-height_at-g)) c.rank_at-inside.ensures

pub returns : goal.returns
returns c =
    edge_sum _ _ _ _ _ c.requires c.node-node.ensures _ c.height_at-g.ensures.0 _ _ (c.count_under-block.ensures _ (opens (goal.at.returns c).After-height_at-g)) c.rank_at-inside.ensures _ c.across_gap.ensures
