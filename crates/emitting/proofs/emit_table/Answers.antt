use native.Mathlib.Omega.{arith}
use Rattle.words.specs.Words.{word_at}
use Rattle.cutting.specs.Behind.{words_of}
use Rattle.emitting.specs.Emitting.{HoldsRecords}
use Rattle.numbering.proofs.Keys.{keyed_readable}
use Rattle.cutting.proofs.Behind.{extended_low}
use Rattle.emitting.proofs.Numbers.{table_plain, next_room, next_records, records_as}
use Rattle.emitting.proofs.emit_table.Goals.{After-emit_plain}
use Rattle.emitting.proofs.emit_table.Goals as goal

-- node v's new record is written
written : (c : After-emit_plain) → HoldsRecords (words_of c.args.cut.now) (word_at c.args.map.now) c.loop-v.v (word_at c.args.out.now 0) c.emit_plain.new.out
written c = next_records _ _ _ _ _ _ c.requires.2 c.loop-v.auto.v (omega arith) (extended_low _ _ _ _ _ c.loop-v-test.true c.word_at.ensures) _ _ _ c.loop-v.auto.out c.loop-v.invariant.1 c.emit_plain.ensures

pub emit_plain-requires : goal.emit_plain-requires
emit_plain-requires c =
    let p = c.requires in
    let l = c.loop-v-test.true in
    let s = c.loop-v.auto.v in
    let z = extended_low _ _ _ _ _ l c.word_at.ensures in (
      keyed_readable _ _ _ _ p.1 p.0 _ _ s (omega arith) z,
      next_room _ _ _ _ _ _ p.2 s (omega arith) z c.loop-v.out c.loop-v.auto.out,
      table_plain _ _ _ _ _ _ _ (omega arith) p.1.closed p.3 s l z,
    )

pub loop-v-preserved : goal.loop-v-preserved
loop-v-preserved c = (omega arith, records_as _ _ _ _ _ _ (omega arith) (written (goal.at.loop-v-preserved c).After-emit_plain))

pub returns-2 : goal.returns-2
returns-2 c = records_as _ _ _ _ _ _ (omega arith) (written (goal.at.returns-2 c).After-emit_plain)
