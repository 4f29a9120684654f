use native.Mathlib.Omega.{arith}
use Rattle.models.proofs.Adding.{adds_none, adds_next}
use Rattle.models.proofs.add_up.Goals as goal

pub loop-i-init : goal.loop-i-init
loop-i-init c = (adds_none _ _ _, omega arith)

pub loop-i-preserved : goal.loop-i-preserved
loop-i-preserved c =
    let i = c.loop-i.invariant in
    (adds_next _ _ _ _ _ _ _ _ i.0 c.edge_at.ensures c.count_under-c.ensures (omega (arith, c.from-sum.ensures)), omega (arith, i.1, c.from-sum.ensures))
