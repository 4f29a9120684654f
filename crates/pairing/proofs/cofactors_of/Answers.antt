-- `pairing::cofactors_of` meets its contract. Assumes nothing.
use mathlib.Core.Bool.{true, false}
use Rattle.diagram.proofs.Cofactor.{passes_below, goes_on}
use Rattle.pairing.proofs.Pairs.{high_node}
use Rattle.pairing.proofs.cofactors_of.Goals as goal

pub returns-then-height_at-h : goal.returns-then-height_at-h
returns-then-height_at-h c =
    let s = passes_below _ _ _ _ _ c.node-node.ensures c.height_at.ensures.0 c.if-height_at-h.true in
    (s true, s false)

pub record_at-requires : goal.record_at-requires
record_at-requires c =
    let p = c.requires in
    high_node _ _ _ _ _ p.0 p.2 c.node-node.ensures c.height_at.ensures.0 c.if-height_at-h.false

pub returns : goal.returns
returns c =
    let r = c.record_at.ensures in
    let s = goes_on _ _ _ _ _ c.node-node.ensures c.height_at.ensures.0 c.if-height_at-h.false in
    (s true _ _ r.then_is c.cofactors.ensures.0, s false _ _ r.else_is c.cofactors.ensures.1)
