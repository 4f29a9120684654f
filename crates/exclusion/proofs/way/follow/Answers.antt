use mathlib.Core.Path.{refl}
use native.Mathlib.Omega.{arith}
use Rattle.diagram.specs.Meaning.{bit}
use Rattle.exclusion.proofs.Following.{reaches_first, reaches_next}
use Rattle.exclusion.proofs.way.follow.Goals as goal

pub overflow_add-way : goal.overflow_add-way
overflow_add-way c = record { fits = omega (arith, c.requires.holds.few_settings) }

pub loop-x-init : goal.loop-x-init
loop-x-init c = reaches_first _ _ _ _ _ c.requires

pub fork_at-fork-requires : goal.fork_at-fork-requires
fork_at-fork-requires c = ((_, c.loop-x.invariant.lies), omega (arith, c.node.ensures, c.loop-x-test.true))

pub overflow_sub-on : goal.overflow_sub-on
overflow_sub-on c = omega (arith, (c.fork_at-fork.ensures _ c.loop-x.invariant.lies).tall)

pub overflow_shr-on : goal.overflow_shr-on
overflow_shr-on c =
    let L = c.loop-x.invariant.lies in
    omega (arith, (c.fork_at-fork.ensures _ L).few, L.holds.few_settings)

pub loop-x-preserved : goal.loop-x-preserved
unfolding bit
loop-x-preserved c =
    let R = c.loop-x.invariant in
    reaches_next _ _ _ _ _ _ _ _ _ _ R (c.fork_at-fork.ensures _ R.lies) _ refl _ _ c.at.ensures c.at-in-loop-x.ensures

pub loop-x-smaller : goal.loop-x-smaller
loop-x-smaller c =
    let F = c.fork_at-fork.ensures _ c.loop-x.invariant.lies in
    omega (arith, (loop-x-preserved c).below, F.height_is, F.tall)

pub returns : goal.returns
returns c = (c.loop-x.invariant.follows, omega (arith, c.node.ensures, c.loop-x-test.false))
