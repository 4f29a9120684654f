use Prim.Native.Nat.{◌+◌, ◌*◌, ◌%◌, ◌^◌, ◌≤◌, ◌<◌}
use mathlib.Core.Path.{◌≡◌, refl, ◌∙◌}
use mathlib.Core.Logic.{inl, inr}
use native.Mathlib.Omega.{arith}
use lib.ListN.{length}
use borrow.Author.Rules.{rules}
use Rattle.words.proofs.Stores.{stored, stored_long}
use Rattle.carrying.specs.Words.{Carries}
use Rattle.carrying.proofs.Placing.{placing_first, turn_carries, turn_room, placing_next}
use Rattle.carrying.proofs.number_carried.Goals as goal
use Rattle.carrying.proofs.number_carried.Goals.{After-put_word, After-word_at-word, Joined-last-key, else-last-key, then-last-key}

pub loop-k-init : goal.loop-k-init
loop-k-init c = (refl, placing_first _ _ _ _ _ c.requires.2)

-- it carries a node
carries : (c : After-word_at-word) → Carries c.args.p c.word_at-word.result
carries c =
    turn_carries _ _ _ _ _ c.requires.2 _ _ _ _ c.loop-k.invariant.1 c.loop-k-test.true _ c.word_at-word.ensures

-- the records end behind it at most
room : (c : Joined-last-key)
    → (c.args.c < c.if-last-key.r) × (c.if-last-key.r ≤ c.loop-k.k + 1) × (c.loop-k.r ≤ c.if-last-key.r)
room c =
    turn_room _ _ _ _ _ c.requires.2 _ _ _ _ c.loop-k.invariant.1 c.loop-k-test.true _ c.word_at-word.ensures _
    (elim c.if-last-key.branch [ then-last-key w ↦ inl (w.if-last-key.true, w.r-is) | else-last-key w ↦ inr (w.if-last-key.false, w.r-is) ])

-- both places lie in the sheet
record-room : (c : Joined-last-key) → 8 * c.if-last-key.r + 8 ≤ length c.loop-k.sheet
record-room c =
    let p = c.requires in
    omega (arith, p.0, p.2.to, (room c).1, c.loop-k-test.true, c.loop-k.invariant.0)

node_room : (c : After-put_word)
    → 8 * (c.args.p + c.word_at-word.result % 65536) + 8 ≤ length c.put_word.new.bytes
node_room c =
    omega (arith, c.requires.0, c.loop-k.invariant.0, (carries (goal.at.After-put_word c).After-word_at-word).inside, stored_long _ _ _ _ c.put_word.ensures (omega (arith, record-room (goal.at.After-put_word c).Joined-last-key)))

pub loop-k-preserved : goal.loop-k-preserved
loop-k-preserved c =
    let z = c.record_of.ensures in
    let fits : c.record_of.result < 2 ^ 64 = search rules in
    let near = record-room (goal.at.loop-k-preserved c).Joined-last-key in
    let far = node_room (goal.at.loop-k-preserved c).After-put_word in (
      stored_long _ _ _ _ c.put_word-in-loop-k.ensures far ∙ stored_long _ _ _ _ c.put_word.ensures (omega arith) ∙ c.loop-k.invariant.0,
      placing_next _ _ _ _ _ c.requires.2 _ _ _ _ c.loop-k.invariant.1 c.loop-k-test.true _ c.word_at-word.ensures _
          (elim c.if-last-key.branch [ then-last-key w ↦ inl (w.if-last-key.true, w.r-is) | else-last-key w ↦ inr (w.if-last-key.false, w.r-is) ]) _ _
          (rw z at (stored _ _ _ _ c.put_word.ensures (omega (arith, (room (goal.at.loop-k-preserved c).Joined-last-key).0)) fits)) (stored _ _ _ _ c.put_word-in-loop-k.ensures far (search rules)),
    )

pub returns : goal.returns
returns c =
    let i = c.loop-k.invariant in
    let e : c.loop-k.k ≡ c.args.end = omega (arith, i.1.to, c.loop-k-test.false) in
    (i.0, rw e at i.1.placed)
