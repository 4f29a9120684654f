use Prim.Native.Nat.{◌+◌, ◌-◌}
use mathlib.Core.Path.{◌≡◌}
use native.Mathlib.Omega.{arith}
use Rattle.lists.proofs.Ranks.{parted_here, parted_down, parted_none}
use Rattle.lists.proofs.order.count_below.Goals as goal

pub loop-i-init : goal.loop-i-init
loop-i-init c j l u = absurd (omega arith)

pub returns-then-word_at-c : goal.returns-then-word_at-c
returns-then-word_at-c c =
    let e : c.loop-i.i - 1 + 1 ≡ c.loop-i.i = omega (arith, c.loop-i-test.true) in
    rw e (parted_here _ _ _ _ c.loop-i.auto.i c.loop-i.invariant c.loop-i-test.true c.requires.1 (rw (← c.word_at.ensures) c.if-word_at-c.true))

pub loop-i-preserved : goal.loop-i-preserved
loop-i-preserved c =
    parted_down _ _ _ _ c.loop-i.auto.i c.loop-i.invariant c.loop-i-test.true (rw (← c.word_at.ensures) c.if-word_at-c.false)

pub returns : goal.returns
returns c = parted_none _ _ _ _ c.loop-i.auto.i c.loop-i.invariant c.loop-i-test.false
