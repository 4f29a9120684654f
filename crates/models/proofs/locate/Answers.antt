use Prim.Native.Nat.{◌^◌}
use mathlib.Core.Path.{◌≡◌}
use native.Mathlib.Omega.{arith}
use Rattle.diagram.specs.Count.{count_below}
use Rattle.models.specs.Inner.{models_of}
use Rattle.models.proofs.Adding.{sum_none, sum_next, model_counted}
use Rattle.models.proofs.locate.Goals as goal
use Rattle.models.proofs.locate.Goals.{After-count_under-c}

pub loop-i-init : goal.loop-i-init
loop-i-init c = let a = c.args in omega (arith, sum_none a.n (models_of a.table.now a.roots.now))

-- the count of model i
counted : (c : After-count_under-c) → let a = c.args in
    c.count_under-c.result ≡ count_below (models_of a.table.now a.roots.now c.loop-i.i) (2 ^ a.n)
counted c = model_counted c.requires.0 _ _ _ c.loop-i-test.true c.edge_at.ensures c.count_under-c.ensures

pub loop-i-preserved : goal.loop-i-preserved
loop-i-preserved c =
    let a = c.args in
    let i = c.loop-i in
    omega (arith, i.invariant, c.if-left-c.false, counted (goal.at.loop-i-preserved c).After-count_under-c, sum_next a.n (models_of a.table.now a.roots.now) i.i)
