use Rattle.std.proofs.Common.{refl, arith, rules}
use Rattle.rows.proofs.Summing.{summed, all_summed}
use Rattle.rows.proofs.expand_row.Goals as goal

pub loop-i-preserved : goal.loop-i-preserved
loop-i-preserved c =
    let l = c.loop-i-test.true in
    summed _ _ _ _ _ _ c.loop-i.invariant _ (search rules) l c.requires.2 c.load-a.ensures _ _ _ c.coefficient-b.ensures refl refl

pub returns : goal.returns
returns c =
    all_summed _ _ _ _ _ _ c.loop-i.invariant _ (search rules) (omega (arith, c.loop-i-test.false, c.loop-i.auto.i-end)) c.load.ensures _ refl
