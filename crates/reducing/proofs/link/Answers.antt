use Prim.Native.Nat.{◌+◌, ◌*◌, ◌≤◌}
use mathlib.Core.Path.{refl, ◌∙◌}
use native.Mathlib.Omega.{arith}
use lib.ListN.{length}
use Rattle.words.proofs.Stores.{stored, stored_long}
use Rattle.reducing.proofs.Lists.{linked_none, turn_height, head_low, linked_next}
use Rattle.reducing.proofs.link.Goals as goal
use Rattle.reducing.proofs.link.Goals.{After-word_at-at, In-loop-i}

pub loop-i-init : goal.loop-i-init
loop-i-init c = (refl, linked_none _ _ _ _ c.requires.2)

-- the node's place lies in the sheet
room : (c : In-loop-i) → 8 * (2 * c.args.p + c.loop-i.i) + 8 ≤ length c.loop-i.sheet
room c = let p = c.requires in omega (arith, p.0, p.1, c.loop-i-test.true, c.loop-i.invariant.0)

-- its height is at most 63
low : (c : After-word_at-at) → c.word_at-at.result ≤ 63
low c =
    omega (arith, turn_height _ _ _ _ _ c.loop-i.invariant.1 _ c.word_at-at.ensures, c.requires.3 c.loop-i.i c.loop-i-test.true)

pub loop-i-preserved : goal.loop-i-preserved
loop-i-preserved c =
    let inv = c.loop-i.invariant in
    let h = low (goal.at.loop-i-preserved c).After-word_at-at in (
      stored_long _ _ _ _ c.put_word.ensures (room (goal.at.loop-i-preserved c).In-loop-i) ∙ inv.0,
      linked_next _ _ _ _ _ inv.1 _ c.word_at-at.ensures h _ _
          (stored _ _ _ _ c.put_word.ensures (room (goal.at.loop-i-preserved c).In-loop-i) (omega (arith, head_low _ _ _ _ _ inv.1 _ c.word_at-at.ensures h, room (goal.at.loop-i-preserved c).In-loop-i))) refl,
    )
