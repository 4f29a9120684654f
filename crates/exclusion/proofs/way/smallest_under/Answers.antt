use mathlib.Core.Path.{refl, ap, ◌∙◌}
use native.Mathlib.Omega.{arith}
use lib.Dec.{eqb}
use Rattle.exclusion.proofs.Seeking.{seeks_first, turns, seeks_off, seeks_on, sought}
use borrow.Author.Tests.{eq-eqb, ne_eqb}
use Rattle.exclusion.proofs.way.smallest_under.Goals as goal
use Rattle.exclusion.proofs.way.smallest_under.Goals.{then-on, else-on}

pub loop-edge-init : goal.loop-edge-init
loop-edge-init c = let p = c.requires in seeks_first _ _ _ p.0.1 p.1

pub fork_at-fork-requires : goal.fork_at-fork-requires
fork_at-fork-requires c = ((_, c.loop-edge.invariant.lies), omega (arith, c.node.ensures, c.loop-edge-test.true))

pub turned-x-requires : goal.turned-x-requires
turned-x-requires c =
    let K = c.loop-edge.invariant in
    turns _ _ _ _ _ _ _ K (c.fork_at-fork.ensures _ K.lies)

pub loop-edge-preserved : goal.loop-edge-preserved
loop-edge-preserved c =
    let K = c.loop-edge.invariant in
    let F = c.fork_at-fork.ensures _ K.lies in
    elim c.if-on.branch [
      | then-on s ↦ seeks_on _ _ _ _ _ _ _ K F _ refl _ c.at-edge.ensures _ (eq-eqb _ _ s.if-on.true) (ap (λ x. x.0) s.x-is ∙ s.turned-x.ensures)
      | else-on s ↦ seeks_off _ _ _ _ _ _ _ K F _ refl _ c.at-edge.ensures _ (ne_eqb _ _ s.if-on.false) (ap (λ x. x.0) s.x-is)
    ]

pub loop-edge-smaller : goal.loop-edge-smaller
loop-edge-smaller c =
    let F = c.fork_at-fork.ensures _ c.loop-edge.invariant.lies in
    rw c.at-edge.ensures (omega (arith, F.height_is, F.lower (eqb c.fork_at-fork.result.sides.low.value 1)))

pub returns : goal.returns
returns c = sought _ _ _ _ c.loop-edge.invariant (omega (arith, c.node.ensures, c.loop-edge-test.false))
