use native.Mathlib.Omega.{arith}
use Rattle.words.specs.Words.{word_at}
use Rattle.cutting.specs.Behind.{words_of}
use Rattle.emitting.specs.Emitting.{HoldsRecords}
use Rattle.numbering.proofs.Keys.{keyed_readable}
use Rattle.emitting.proofs.Numbers.{next_room, next_records, records_as}
use Rattle.emitting.proofs.emit_cuts.Goals.{After-emit_one}
use Rattle.emitting.proofs.emit_cuts.Goals as goal

-- node v's new record is written
written : (c : After-emit_one) → HoldsRecords (words_of c.args.cut.now) (word_at c.args.map.now) c.loop-v.v (word_at c.args.out.now 0) c.emit_one.new.out
written c = next_records _ _ _ _ _ _ c.requires.2 (omega (arith, c.loop-v.auto.v)) (omega (arith, c.loop-v-test.true, c.last-v-end.ensures)) c.word_in.ensures _ _ _ c.loop-v.auto.out c.loop-v.invariant.1 c.emit_one.ensures

pub emit_one-requires : goal.emit_one-requires
emit_one-requires c =
    let p = c.requires in
    let m = c.loop-v-test.true in (
      keyed_readable _ _ _ _ p.1 p.0 _ _ (omega (arith, c.loop-v.auto.v)) (omega arith) c.word_in.ensures,
      next_room _ _ _ _ _ _ p.2 (omega (arith, c.loop-v.auto.v)) (omega (arith, m, c.last-v-end.ensures)) c.word_in.ensures c.loop-v.out c.loop-v.auto.out,
    )

pub loop-v-preserved : goal.loop-v-preserved
loop-v-preserved c = (omega arith, records_as _ _ _ _ _ _ (omega arith) (written (goal.at.loop-v-preserved c).After-emit_one))

pub returns-2 : goal.returns-2
returns-2 c = records_as _ _ _ _ _ _ (omega arith) (written (goal.at.returns-2 c).After-emit_one)
