use native.Mathlib.Omega.{arith}
use Rattle.lists.proofs.Ranks.{rising_one, rising_falls, rising_next, rising_all}
use Rattle.lists.proofs.order.check_rising.Goals as goal

pub loop-i-init : goal.loop-i-init
loop-i-init c = (omega arith, omega arith, rising_one _)

pub returns-then-word_at : goal.returns-then-word_at
returns-then-word_at c =
    let i = c.loop-i.invariant in
    rising_falls _ _ _ i.0 i.2 c.loop-i-test.true (rw (← c.word_at.ensures, ← c.word_at-in-loop-i.ensures) c.if-word_at.true)

pub loop-i-preserved : goal.loop-i-preserved
loop-i-preserved c =
    let i = c.loop-i.invariant in
    let l = c.loop-i-test.true in
    (omega arith, omega arith, rising_next _ _ 0 i.0 i.2 (rw (← c.word_at.ensures, ← c.word_at-in-loop-i.ensures) c.if-word_at.false))

pub returns : goal.returns
returns c = let i = c.loop-i.invariant in rising_all _ _ _ i.0 i.2 c.loop-i-test.false i.1
