use Rattle.std.proofs.Common.{◌≡◌, ◌+◌, ◌-◌, length, refl, ◌∙◌, subst, arith}
use Rattle.rows.specs.Inner.{Rows, Next}
use Rattle.rows.proofs.Filling.{sink_row, next_row, row_entered}
use Rattle.rows.proofs.fill.Goals as goal
use Rattle.rows.proofs.fill.Goals.{At-loop-k, In-loop-k}

pub loop-k-init : goal.loop-k-init
loop-k-init c =
    (sink_row _ _ _ _ _ c.requires _ _ c.blank.ensures c.store.ensures, refl)

-- at the loop's head the sheet is as long as it was
head-long : (c : At-loop-k) → length c.loop-k.sheet ≡ length c.args.sheet.now
head-long c = c.loop-k.invariant.1 ∙ c.store.auto.bytes ∙ c.blank.auto.bytes

next : (c : In-loop-k) → let a = c.args in Next a.table.now c.loop-k.sheet a.m (c.loop-k.k + 1)
next c =
    let k = c.loop-k.k in
    let a = c.args in
    let e : k ≡ k + 1 - 1 = omega arith in
    next_row _ _ _ _ _ c.requires _ (k + 1) (omega arith) (omega (arith, c.loop-k-test.true)) (head-long (goal.at.In-loop-k c).At-loop-k)
    (subst (Rows a.table.now c.loop-k.sheet a.m) e c.loop-k.invariant.0)

pub enter_row-requires : goal.enter_row-requires
enter_row-requires c = (omega arith, next (goal.at.enter_row-requires c).In-loop-k)

pub loop-k-preserved : goal.loop-k-preserved
loop-k-preserved c =
    let i = c.loop-k.invariant in
    let long = c.enter_row.auto.sheet in
    (row_entered _ _ _ _ _ i.0 (next (goal.at.loop-k-preserved c).In-loop-k) long c.enter_row.ensures, long ∙ i.1)
