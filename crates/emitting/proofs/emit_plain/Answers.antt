-- `emitting::emit_plain` meets its contract. Assumes nothing.
use Prim.Native.Nat.{◌<◌}
use borrow.Author.Rules.{rules}
use Rattle.words.specs.Words.{word_at}
use Rattle.numbering.proofs.Keys.{place_live}
use Rattle.emitting.proofs.Emits.{emit_record, emit_none}
use Rattle.emitting.proofs.emit_plain.Goals as goal
use Rattle.emitting.proofs.emit_plain.Goals.{Else-word_at-eq0}

pub returns-then-word_at-eq0 : goal.returns-then-word_at-eq0
returns-then-word_at-eq0 c = emit_none _ _ _ _ _ c.word_at.ensures c.if-word_at-eq0.true

-- the node is kept
live : (c : Else-word_at-eq0) → 0 < word_at c.args.map.now c.args.v.0
live c = place_live _ _ _ c.word_at.ensures c.if-word_at-eq0.false

pub renew_plain-requires : goal.renew_plain-requires
renew_plain-requires c =
    let p = c.requires in
    (p.0.kept (live (goal.at.renew_plain-requires c).Else-word_at-eq0), (p.2 (live (goal.at.renew_plain-requires c).Else-word_at-eq0)).0)

pub write_record-requires : goal.write_record-requires
write_record-requires c =
    let p = c.requires in
    (p.0.room, live (goal.at.write_record-requires c).Else-word_at-eq0, p.1 (p.2 (live (goal.at.write_record-requires c).Else-word_at-eq0)).1)

pub returns : goal.returns
returns c =
    let p = c.requires in
    emit_record _ _ _ _ _ _ (p.2 (live (goal.at.returns c).Else-word_at-eq0)).1 c.renew_plain.ensures (search rules) c.write_record.ensures
