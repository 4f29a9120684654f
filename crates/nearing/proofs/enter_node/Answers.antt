-- `nearing::enter_node` meets its contract: both edges to the node, one after the other. Assumes nothing.
use mathlib.Core.Path.{refl, ap}
use native.Mathlib.Omega.{arith}
use Rattle.diagram.specs.Count.{indicator}
use Rattle.nearing.proofs.Entering.{node_low, edge_bytes, edge_far, kept_before, node_entered}
use Rattle.nearing.proofs.enter_node.Goals as goal

pub setting-was-requires : goal.setting-was-requires
setting-was-requires c = node_low _ _ _ _ c.requires _ _ _ c.record_at-record.ensures

pub enter_edge-requires : goal.enter_edge-requires
unfolding indicator
enter_edge-requires c =
    edge_bytes _ _ _ _ c.requires _ _ _ c.record_at-record.ensures _ (ap indicator c.setting-was.ensures) _ _ _ (omega (arith, c.new-plain.ensures)) c.cofactors.ensures _ refl (λ i l. refl)

pub enter_edge-requires-2 : goal.enter_edge-requires-2
unfolding indicator
enter_edge-requires-2 c =
    let N = c.requires in
    let r = c.record_at-record.ensures in
    let z = ap indicator c.setting-was.ensures in
    let k = kept_before _ _ _ _ N _ _ _ r _ z _ _ _ (omega (arith, c.new-plain.ensures)) c.enter_edge.ensures in
    edge_bytes _ _ _ _ N _ _ _ r _ z _ _ _ (omega (arith, c.new-flagged.ensures)) c.cofactors-2.ensures _ k.0 k.1

pub returns : goal.returns
unfolding indicator
returns c =
    let N = c.requires in
    let r = c.record_at-record.ensures in
    let z = ap indicator c.setting-was.ensures in
    let k = kept_before _ _ _ _ N _ _ _ r _ z _ _ _ (omega (arith, c.new-plain.ensures)) c.enter_edge.ensures in
    node_entered _ _ _ _ N _ _ _ r _ z _ _ _ _ _ _ c.enter_edge.ensures c.enter_edge-2.ensures (omega (arith, c.new-plain.ensures)) (omega (arith, c.new-flagged.ensures))
    (edge_far _ _ _ _ N _ _ _ r _ z _ _ _ (omega (arith, c.new-plain.ensures)) c.cofactors.ensures c.args.sheet.now refl (λ i l. refl))
    (edge_far _ _ _ _ N _ _ _ r _ z _ _ _ (omega (arith, c.new-flagged.ensures)) c.cofactors-2.ensures c.enter_edge.new.sheet k.0 k.1)
