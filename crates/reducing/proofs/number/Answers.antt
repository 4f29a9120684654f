use Prim.Native.Nat.{◌+◌, ◌-◌, ◌*◌, ◌^◌, ◌≤◌, ◌<◌}
use mathlib.Core.Path.{refl, ◌∙◌}
use native.Mathlib.Omega.{arith}
use lib.ListN.{length}
use borrow.Author.Rules.{rules}
use Rattle.words.proofs.Stores.{stored, stored_long}
use Rattle.reducing.proofs.Giving.{counted_first, give_inside, give_findable, give_falls, counted_next}
use Rattle.reducing.proofs.number.Goals as goal
use Rattle.reducing.proofs.number.Goals.{In-loop-next}

pub loop-next-init : goal.loop-next-init
loop-next-init c = (refl, λ D R. counted_first D _ _ _ _ _ _ R)

-- the node's place is one of the P
inside : (c : In-loop-next) → c.loop-next.next - 1 < c.args.p
inside c =
    let p = c.requires in
    give_inside p.1.0 _ _ _ _ _ _ p.1.1 _ _ (c.loop-next.invariant.1 p.1.0 p.1.1) c.loop-next-test.true

pub result_of-r-requires : goal.result_of-r-requires
result_of-r-requires c =
    let p = c.requires in
    let R = p.1.1 in (
      omega (arith, p.0, c.loop-next.invariant.0),
      inside c,
      R.to,
      R.low,
      give_findable p.1.0 _ _ _ _ _ _ R _ _ (c.loop-next.invariant.1 p.1.0 R) c.loop-next-test.true,
    )

-- both places of the node lie in the sheet
room : (c : In-loop-next) → 8 * (2 * c.args.p + (c.loop-next.next - 1)) + 8 ≤ length c.loop-next.sheet
room c = omega (arith, c.requires.0, c.loop-next.invariant.0, inside c)

put-room : (c : In-loop-next) → 8 * (c.args.p + (c.loop-next.next - 1)) + 8 ≤ length c.loop-next.sheet
put-room c = omega (arith, room c)

pub loop-next-smaller : goal.loop-next-smaller
loop-next-smaller c =
    let p = c.requires in
    let fits : c.result_of-r.result < 2 ^ 64 = search rules in
    give_falls p.1.0 _ _ _ _ _ _ p.1.1 _ _ (c.loop-next.invariant.1 p.1.0 p.1.1) c.loop-next-test.true _ _ c.result_of-r.ensures
    (stored _ _ _ _ c.put_word.ensures (put-room (goal.at.loop-next-smaller c).In-loop-next) fits) _ c.word_at-next.ensures

pub loop-next-preserved : goal.loop-next-preserved
loop-next-preserved c =
    let inv = c.loop-next.invariant in
    let fits : c.result_of-r.result < 2 ^ 64 = search rules in (
      stored_long _ _ _ _ c.put_word.ensures (put-room (goal.at.loop-next-preserved c).In-loop-next) ∙ inv.0,
      λ D R. counted_next D _ _ _ _ _ _ R _ _ (inv.1 D R) c.loop-next-test.true _ _ c.result_of-r.ensures
          (stored _ _ _ _ c.put_word.ensures (put-room (goal.at.loop-next-preserved c).In-loop-next) fits) _ c.word_at-next.ensures,
    )
