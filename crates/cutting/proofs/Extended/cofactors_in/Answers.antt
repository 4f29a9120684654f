-- `cutting::Extended::cofactors_in` meets its contract. Assumes nothing.
use Prim.Native.Nat.{ℕ}
use mathlib.Core.Path.{◌≡◌, sym}
use mathlib.Core.Bool.{true, false}
use native.Mathlib.Omega.{arith}
use Rattle.diagram.specs.Format.{Words}
use Rattle.diagram.specs.Reading.{HasFields, IsRecord}
use Rattle.diagram.proofs.Fields.{height_sink, fields_record}
use Rattle.diagram.proofs.Cofactor.{passes_below, goes_on}
use Rattle.cutting.proofs.Extended.cofactors_in.Goals as goal

-- the fields of a node's word are those of its record
record_of : (w : Words) (k v h t e : ℕ) → (k ≡ 0 → ⊥) → v ≡ w k → HasFields v h t e → IsRecord w k h t e
record_of w k v h t e n = fields_record w k v h t e (omega (arith, n))

pub returns-then-node-eq0 : goal.returns-then-node-eq0
returns-then-node-eq0 c =
    let s = passes_below _ _ _ _ 0 c.node-node.ensures (sym (height_sink _ _ c.if-node-eq0.true)) c.requires.1 in
    (s true, s false)

pub returns-then-record-h : goal.returns-then-record-h
returns-then-record-h c =
    let r = record_of _ _ _ _ _ _ c.if-node-eq0.false c.word_in.ensures c.from-record.ensures in
    let s = passes_below _ _ _ _ _ c.node-node.ensures r.height_is c.if-record-h.true in
    (s true, s false)

pub returns : goal.returns
returns c =
    let a = c.before in
    let r = record_of _ _ _ _ _ _ a.if-node-eq0.false a.word_in.ensures a.from-record.ensures in
    let s = goes_on _ _ _ _ _ a.node-node.ensures r.height_is a.if-record-h.false in
    (s true _ _ r.then_is c.cofactors.ensures.0, s false _ _ r.else_is c.cofactors.ensures.1)
