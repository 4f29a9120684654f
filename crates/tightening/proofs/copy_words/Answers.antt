use Prim.Native.Nat.{◌+◌, ◌*◌, ◌≤◌}
use mathlib.Core.Path.{◌≡◌, refl, subst, ◌∙◌}
use native.Mathlib.Omega.{arith}
use borrow.Author.Rules.{rules}
use lib.ListN.{length}
use Rattle.words.proofs.Stores.{stored, stored_long}
use Rattle.tightening.specs.Inner.{Copied}
use Rattle.tightening.proofs.Copies.{copied_next}
use Rattle.tightening.proofs.copy_words.Goals as goal
use Rattle.tightening.proofs.copy_words.Goals.{In-loop-k}

pub loop-k-init : goal.loop-k-init
loop-k-init c = (refl, λ i l. absurd (omega arith))

pub word_at-requires : goal.word_at-requires
word_at-requires c = omega (arith, c.loop-k-test.true, c.requires.0)

-- there is room for word k
room : (c : In-loop-k) → 8 * c.loop-k.k + 8 ≤ length c.loop-k.out
room c = omega (arith, c.loop-k-test.true, c.loop-k.invariant.0, c.requires.1)

pub loop-k-preserved : goal.loop-k-preserved
loop-k-preserved c =
    let i = c.loop-k.invariant in
    let e = c.put_word.ensures in (
      stored_long _ _ _ _ e (room (goal.at.loop-k-preserved c).In-loop-k) ∙ i.0,
      copied_next _ _ _ _ _ i.1 c.word_at.ensures (stored _ _ _ _ e (room (goal.at.loop-k-preserved c).In-loop-k) (search rules)),
    )

pub returns : goal.returns
returns c =
    let i = c.loop-k.invariant in
    let e : c.loop-k.k ≡ c.args.m = omega (arith, c.loop-k.auto.k-end, c.loop-k-test.false) in
    (subst (Copied _ _) e i.1, i.0)

pub put_word-requires : goal.put_word-requires
put_word-requires c = room (goal.at.put_word-requires c).In-loop-k
