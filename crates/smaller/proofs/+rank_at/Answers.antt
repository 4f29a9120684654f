use native.Mathlib.Omega.{arith}
use Rattle.smaller.proofs.Below.{none_below, node_room, edge_opens, node_opens, gap_opens, step_filled, falls, node_sum}
use Rattle.smaller.proofs.+rank_at.Goals as goal

-- the sink
pub returns-then-k-eq0 : goal.returns-then-k-eq0
returns-then-k-eq0 t c = none_below _ _ _ c.if-k-eq0.true c.requires.1

-- the step
pub step_from-step-requires : goal.step_from-step-requires
step_from-step-requires t c = let p = c.requires in (omega arith, p.0, p.1)

-- its node's height
pub height_at-g-requires : goal.height_at-g-requires
height_at-g-requires t c = node_room _ _ _ _ 0 (step_filled _ _ _ _ _ _ _ c.requires.0 c.step_from-step.ensures) c.node-node.ensures

-- its edge's count
pub count_under-block-requires : goal.count_under-block-requires
count_under-block-requires t c =
    (_, edge_opens _ _ _ _ 0 (step_filled _ _ _ _ _ _ _ c.requires.0 c.step_from-step.ensures) c.node-node.ensures _ c.height_at-g.ensures.0)

-- the call on its node
pub rank_at-inside-requires : goal.rank_at-inside-requires
rank_at-inside-requires t c =
    let p = c.requires in
    let o = node_opens _ _ _ _ _ (step_filled _ _ _ _ _ _ _ p.0 c.step_from-step.ensures) c.node-node.ensures _ c.height_at-g.ensures.0 in
    (falls _ _ _ _ _ _ _ p.0 c.step_from-step.ensures _ _ c.node-node.ensures c.decreases, o)

-- across the gap
pub across_gap-requires : goal.across_gap-requires
across_gap-requires t c =
    let F = step_filled _ _ _ _ _ _ _ c.requires.0 c.step_from-step.ensures in
    let v = c.node-node.ensures in
    let h = c.height_at-g.ensures.0 in
    gap_opens _ _ _ _ _ F v _ h _ _ (c.count_under-block.ensures _ (edge_opens _ _ _ _ 0 F v _ h)) c.rank_at-inside.ensures

-- the sum
pub overflow_add-result : goal.overflow_add-result
overflow_add-result t c =
    let p = c.requires in
    let v = c.node-node.ensures in
    let h = c.height_at-g.ensures.0 in
    let block = c.count_under-block.ensures _ (edge_opens _ _ _ _ 0 (step_filled _ _ _ _ _ _ _ p.0 c.step_from-step.ensures) v _ h) in
    record { fits = (node_sum _ _ _ _ _ _ _ p.0 c.step_from-step.ensures _ _ _ _ _ v h block c.rank_at-inside.ensures c.across_gap.ensures p.1).1 }

pub returns : goal.returns
returns t c =
    let p = c.requires in
    let v = c.node-node.ensures in
    let h = c.height_at-g.ensures.0 in
    let block = c.count_under-block.ensures _ (edge_opens _ _ _ _ 0 (step_filled _ _ _ _ _ _ _ p.0 c.step_from-step.ensures) v _ h) in
    (node_sum _ _ _ _ _ _ _ p.0 c.step_from-step.ensures _ _ _ _ _ v h block c.rank_at-inside.ensures c.across_gap.ensures p.1).0
