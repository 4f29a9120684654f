-- `emitting::emit_one` meets its contract. Assumes nothing.
use borrow.Author.Rules.{rules}
use borrow.Author.Tests.{true-eqb, false-eqb}
use Rattle.emitting.proofs.Emits.{has_record, emit_quiet, emit_wrote}
use Rattle.emitting.proofs.emit_one.Goals as goal

pub returns-then-eq : goal.returns-then-eq
returns-then-eq c =
    emit_quiet _ _ _ _ _ _ _ _ c.requires.0 c.key_of-key.ensures c.from-fields.ensures _ (true-eqb _ _ c.if-eq.ensures)

pub write_record-requires : goal.write_record-requires
write_record-requires c =
    let p = c.requires in
    let o = has_record _ _ _ _ _ _ _ _ p.0 c.key_of-key.ensures c.from-fields.ensures (false-eqb _ _ c.if-eq.ensures) in
    (p.0.room, o.live, p.1 o)

pub returns : goal.returns
returns c =
    emit_wrote _ _ _ _ _ _ _ _ c.requires.0 c.key_of-key.ensures c.from-fields.ensures (false-eqb _ _ c.if-eq.ensures) _ _ (search rules) c.write_record.ensures
