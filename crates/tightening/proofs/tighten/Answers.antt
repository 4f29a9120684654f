-- `tightening::tighten` meets its contract: the nodes that the root leads to are gathered, and written as a table. Assumes nothing.
use native.Mathlib.Omega.{arith}
use Rattle.tightening.proofs.Nodes.{loosely_within, nodes_hold, nodes_written}
use Rattle.tightening.proofs.tighten.Goals as goal

pub overflow_add-p : goal.overflow_add-p
overflow_add-p c = record { fits = omega (arith, c.requires.0.few) }

pub gather-requires : goal.gather-requires
gather-requires c =
    let p = c.requires in
    (omega (arith, p.2), loosely_within _ _ _ p.0 p.1 _ c.node.ensures)

pub write_root-requires : goal.write_root-requires
write_root-requires c =
    let p = c.requires in
    let g = c.gather.ensures in
    nodes_hold _ _ _ p.0 p.1 _ c.node.ensures _ g.1 (omega (arith, p.2, g.0))

pub returns : goal.returns
returns c =
    let p = c.requires in
    let g = c.gather.ensures in
    nodes_written _ _ _ p.0 p.1 _ c.node.ensures _ g.1 _ _ _ c.write_root.ensures
