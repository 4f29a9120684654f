use native.Mathlib.Omega.{arith}
use Rattle.marking.proofs.Marking.{marking_start, marking_down}
use Rattle.marking.proofs.mark.Goals as goal

pub loop-v-init : goal.loop-v-init
loop-v-init c = rw (← c.node.ensures) (marking_start _ _ _ _ _ _ _ c.requires.0 c.last-last.ensures c.blank.ensures c.mark_two.ensures)

pub loop-v-preserved : goal.loop-v-preserved
loop-v-preserved c =
    marking_down _ _ _ _ _ _ _ c.requires.1 c.loop-v-test.true (omega (arith, c.loop-v.auto.v, c.last-last.ensures)) c.loop-v.invariant c.mark_below.ensures
