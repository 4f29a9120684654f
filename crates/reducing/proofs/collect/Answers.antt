use Prim.Native.Nat.{◌+◌, ◌-◌, ◌*◌, ◌≤◌, ◌<◌}
use mathlib.Core.Path.{refl, ◌∙◌}
use mathlib.Core.Logic.{inl, inr}
use native.Mathlib.Omega.{arith}
use lib.ListN.{length}
use Rattle.reducing.proofs.Collecting.{collected_first, turn_inside, turn_room, turn_low, turn_leads, collect_falls, collected_turn}
use Rattle.reducing.proofs.collect.Goals as goal
use Rattle.reducing.proofs.collect.Goals.{After-renew, else-renew, then-renew}

pub loop-next-init : goal.loop-next-init
loop-next-init c = (refl, λ D R. collected_first D _ _ _ _ _ R)

pub renew-requires : goal.renew-requires
renew-requires c =
    let p = c.requires in
    let D = p.1.0 in
    let R = p.1.1 in
    let K = c.loop-next.invariant.1 D R in
    let t = c.loop-next-test.true in (
      omega (arith, p.0, c.loop-next.invariant.0),
      turn_inside D _ _ _ _ _ R _ _ _ K t,
      turn_room D _ _ _ _ _ R _ _ _ K t,
      R.low,
      turn_leads D _ _ _ _ _ R _ _ _ K t,
      turn_low D _ _ _ _ _ R _ _ _ K t,
    )

-- there was room for the word, and there is for the list
room : (c : After-renew) → c.loop-next.end < c.args.p
room c =
    let p = c.requires in
    turn_room p.1.0 _ _ _ _ _ p.1.1 _ _ _ (c.loop-next.invariant.1 p.1.0 p.1.1) c.loop-next-test.true

link-room : (c : After-renew) → 8 * (2 * c.args.p + (c.loop-next.next - 1)) + 8 ≤ length c.renew.new.sheet
link-room c =
    let p = c.requires in
    let i = turn_inside p.1.0 _ _ _ _ _ p.1.1 _ _ _ (c.loop-next.invariant.1 p.1.0 p.1.1) c.loop-next-test.true in
    omega (arith, p.0, c.loop-next.invariant.0, c.renew.ensures.0)

pub overflow_add-end : goal.overflow_add-end
overflow_add-end c = omega (arith, room (goal.at.overflow_add-end c).After-renew, link-room (goal.at.overflow_add-end c).After-renew)

pub loop-next-smaller : goal.loop-next-smaller
loop-next-smaller c =
    let p = c.requires in
    collect_falls p.1.0 _ _ _ _ _ p.1.1 _ _ _ (c.loop-next.invariant.1 p.1.0 p.1.1) c.loop-next-test.true _ c.renew.ensures.1 _ c.word_at-next.ensures

pub loop-next-preserved : goal.loop-next-preserved
loop-next-preserved c =
    let inv = c.loop-next.invariant in
    let e = c.renew.ensures in (
      e.0 ∙ inv.0,
      λ D R. collected_turn D _ _ _ _ _ R _ _ _ (inv.1 D R) c.loop-next-test.true _ e.1 _ c.word_at-next.ensures _ _ e.2
          (elim c.if-renew.branch [ then-renew w ↦ inl (w.if-renew.true, w.end-is) | else-renew w ↦ inr (w.if-renew.false, w.end-is) ]),
    )
