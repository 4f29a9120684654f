use mathlib.Core.Path.{refl, ap}
use mathlib.Core.Bool.{false}
use native.Mathlib.Omega.{arith}
use lib.Dec.{ltb}
use Rattle.diagram.specs.Count.{indicator}
use Rattle.walking.specs.Inner.{Forks}
use Rattle.nearing.proofs.Entering.{sides_bytes}
use Rattle.nearing.proofs.Going.{goes_last, goes_next}
use Rattle.nearing.proofs.nearest.Goals as goal
use Rattle.nearing.proofs.nearest.Goals.{After-fork_at-fork}

forks : (c : After-fork_at-fork) → let r = c.fork_at-fork.result in Forks c.args.table.now c.loop-edge.invariant.lies.0 c.loop-edge.edge.value r.height r.sides.high.value r.sides.low.value
forks c = c.fork_at-fork.ensures _ c.loop-edge.invariant.lies.1

pub setting-requires : goal.setting-requires
setting-requires c = let F = forks (goal.at.setting-requires c).After-fork_at-fork in (F.tall, omega (arith, F.few, (F.lies false).holds.few_settings))

pub costs_of-costs-requires : goal.costs_of-costs-requires
costs_of-costs-requires c =
    sides_bytes _ _ _ _ _ _ _ _ _ c.requires.filled (forks (goal.at.costs_of-costs-requires c).After-fork_at-fork) (omega (arith, c.loop-edge.invariant.inside))

pub set_setting-y-requires : goal.set_setting-y-requires
set_setting-y-requires c =
    let F = forks (goal.at.set_setting-y-requires c).After-fork_at-fork in
    (F.tall, omega (arith, F.few, (F.lies false).holds.few_settings), c.loop-edge.invariant.small)

pub loop-edge-preserved : goal.loop-edge-preserved
loop-edge-preserved c =
    goes_next _ _ _ _ _ _ c.loop-edge.invariant c.requires.filled _ _ _ (forks (goal.at.loop-edge-preserved c).After-fork_at-fork) _ (ap indicator c.setting.ensures) _ _ c.costs_of-costs.ensures _ refl _ _ c.at-edge.ensures c.set_setting-y.ensures

pub loop-edge-smaller : goal.loop-edge-smaller
loop-edge-smaller c =
    let costs = c.costs_of-costs.result in
    rw c.at-edge.ensures (omega (arith, (forks (goal.at.loop-edge-smaller c).After-fork_at-fork).height_is, (forks (goal.at.loop-edge-smaller c).After-fork_at-fork).lower (ltb costs.on costs.off)))

pub returns : goal.returns
returns c = goes_last _ _ _ _ _ c.loop-edge.invariant (omega (arith, c.node.ensures, c.loop-edge-test.false))
