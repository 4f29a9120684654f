use native.Mathlib.Omega.{arith}
use Rattle.descent.proofs.Choosing.{chosen_first, chosen_last, digits_fit}
use Rattle.descent.proofs.descend.Goals as goal

pub look_below-below-requires : goal.look_below-below-requires
look_below-below-requires c = c.requires.0

pub loop-h-init : goal.loop-h-init
loop-h-init c =
    let p = c.requires in
    let b = c.look_below-below.ensures in
    (record { opens = p.0; below = b; left_fits = omega (arith, p.1, b.count_is) }, chosen_first _ _ _ _ p.1)

pub advance-way-requires : goal.advance-way-requires
advance-way-requires c =
    let i = c.loop-h.invariant in
    let l = c.loop-h-test.true in
    (i.0, l, omega (arith, digits_fit _ _ _ _ _ _ _ _ _ i.0.opens l i.1 c.requires.0.few))

pub loop-h-preserved : goal.loop-h-preserved
loop-h-preserved c = let a = c.advance-way.ensures in (a.stands, a.chosen _ _ _ c.loop-h.invariant.1)

pub returns : goal.returns
returns c = chosen_last _ _ _ _ _ _ _ _ (omega (arith, c.loop-h-test.false)) c.loop-h.invariant.1
