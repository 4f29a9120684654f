use Prim.Native.Nat.{◌+◌}
use mathlib.Core.Path.{refl}
use native.Mathlib.Omega.{arith}
use Rattle.cutting.proofs.Behind.{extended_low}
use Rattle.merging.proofs.Merge.{few_records}
use Rattle.merging.proofs.Passing.{turn_pass, turn_ready, turn_differ, turn_last, turn_next, turn_end}
use Rattle.merging.proofs.number_table.Goals.{else-loop-next-test, then-loop-next-test+else-next-nodes, then-word_at-ne0+else-limit-word, else-word_at-ne0}
use Rattle.merging.proofs.number_table.Goals as goal

pub renew_plain-word-requires : goal.renew_plain-word-requires
renew_plain-word-requires c =
    let l = c.loop-next-test.true in
    let i = c.loop-next.invariant in
    let p = c.requires in
    turn_ready _ _ _ _ _ _ _ _ _ _ _ _ p.1 i c.args.cut.now.few_settings c.args.cut.now.few_nodes l
    _ _ (extended_low _ _ _ _ _ l c.word_at-then-word_at-ne0.ensures) c.word_at.ensures c.if-word_at-ne0.true (omega (arith, p.0, i.reached.same_length))

pub returns-then-limit-word : goal.returns-then-limit-word
returns-then-limit-word c =
    let l = c.loop-next-test.true in
    let p = c.requires in (
      turn_last _ _ _ _ _ _ _ _ _ _ _ _ p.1 c.loop-next.invariant c.args.cut.now.few_settings c.args.cut.now.few_nodes l
          _ _ (extended_low _ _ _ _ _ l c.word_at-then-word_at-ne0.ensures) c.word_at.ensures c.if-word_at-ne0.true _ c.renew_plain-word.ensures c.if-limit-word.true,
      refl,
      refl,
    )

pub give_number-tally-requires : goal.give_number-tally-requires
give_number-tally-requires c =
    let l = c.loop-next-test.true in
    let i = c.loop-next.invariant in
    let p = c.requires in
    let d = turn_differ _ _ _ _ _ _ _ _ _ _ _ _ p.1 i c.args.cut.now.few_settings c.args.cut.now.few_nodes l
    _ _ (extended_low _ _ _ _ _ l c.word_at-then-word_at-ne0.ensures) c.word_at.ensures c.if-word_at-ne0.true _ c.renew_plain-word.ensures in (
      omega (arith, p.0, i.reached.same_length),
      omega (arith, c.args.cut.now.few_settings, c.args.cut.now.few_nodes, few_records _ _ _ _ _ _ _ _ _ p.1 i.reached.merging),
      d.0,
      d.1,
    )

pub loop-next-preserved : goal.loop-next-preserved
loop-next-preserved c =
    let l = c.loop-next-test.true in
    let i = c.loop-next.invariant in
    let p = c.requires in
    let d = c.args.cut.now in
    elim c.if-word_at-ne0.branch [
      | then-word_at-ne0+else-limit-word w ↦ rw (w.map-is, w.tally-is)
          (turn_next _ _ _ _ _ _ _ _ _ _ _ _ p.1 i d.few_settings d.few_nodes l _ _ (extended_low _ _ _ _ _ l w.word_at-then-word_at-ne0.ensures) c.word_at.ensures w.if-word_at-ne0.true
          _ w.renew_plain-word.ensures _ _ _ (omega (arith, p.0, i.reached.same_length)) w.if-limit-word.false w.give_number-tally.ensures)
      | else-word_at-ne0 w ↦ rw (w.map-is, w.tally-is) (turn_pass _ _ _ _ _ _ _ _ _ _ _ _ p.1 i d.few_settings d.few_nodes l _ c.word_at.ensures w.if-word_at-ne0.false)
    ]

pub returns : goal.returns
returns c =
    let i = c.loop-next.invariant in
    let p = c.requires in
    let d = c.args.cut.now in (
      elim c.loop-next-test.branch [
        | else-loop-next-test v ↦ rw (v.map-is, v.tally-is) (turn_end _ _ _ _ _ _ _ _ _ _ _ _ i v.loop-next-test.false)
        | then-loop-next-test+else-next-nodes v ↦ let l = v.loop-next-test.true in rw (v.map-is, v.tally-is) (turn_end _ _ _ _ _ _ _ _ _ _ _ (c.loop-next.next + 1) (elim v.if-word_at-ne0.branch [
          | then-word_at-ne0+else-limit-word w ↦ rw (w.map-is, w.tally-is)
              (turn_next _ _ _ _ _ _ _ _ _ _ _ _ p.1 i d.few_settings d.few_nodes l _ _ (extended_low _ _ _ _ _ l w.word_at-then-word_at-ne0.ensures) v.word_at.ensures w.if-word_at-ne0.true
              _ w.renew_plain-word.ensures _ _ _ (omega (arith, p.0, i.reached.same_length)) w.if-limit-word.false w.give_number-tally.ensures)
          | else-word_at-ne0 w ↦ rw (w.map-is, w.tally-is) (turn_pass _ _ _ _ _ _ _ _ _ _ _ _ p.1 i d.few_settings d.few_nodes l _ v.word_at.ensures w.if-word_at-ne0.false)
        ]) (omega arith))
      ],
      refl,
      refl,
    )
