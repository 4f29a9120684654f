use Prim.Native.Nat.{◌+◌, ◌*◌, ◌≤◌}
use mathlib.Core.Path.{◌≡◌, refl, ◌∙◌}
use native.Mathlib.Omega.{arith}
use lib.ListN.{length}
use borrow.Author.Rules.{rules}
use Rattle.words.proofs.Stores.{stored, stored_long}
use Rattle.compiling.proofs.Copying.{copied_none, copied_next}
use Rattle.compiling.proofs.copy_records.Goals as goal
use Rattle.compiling.proofs.copy_records.Goals.{In-loop-k}

pub loop-k-init : goal.loop-k-init
loop-k-init c = (refl, copied_none _ _ _ refl)

pub word_at-requires : goal.word_at-requires
word_at-requires c = omega (arith, c.loop-k-test.true, c.requires.0)

-- there is room for record k
room : (c : In-loop-k) → 8 * (c.loop-k.k + 1) + 8 ≤ length c.loop-k.out
room c = omega (arith, c.loop-k-test.true, c.loop-k.invariant.0, c.requires.1)

pub loop-k-preserved : goal.loop-k-preserved
loop-k-preserved c =
    let i = c.loop-k.invariant in
    let e = c.put_word.ensures in (
      stored_long _ _ _ _ e (room (goal.at.loop-k-preserved c).In-loop-k) ∙ i.0,
      copied_next _ _ _ _ _ _ i.1 c.word_at.ensures (stored _ _ _ _ e (room (goal.at.loop-k-preserved c).In-loop-k) (search rules)),
    )

pub returns : goal.returns
returns c =
    let i = c.loop-k.invariant in
    let e : c.loop-k.k ≡ c.args.count = omega (arith, c.loop-k.auto.k-end, c.loop-k-test.false) in
    (rw e at i.1, i.0)

pub put_word-requires : goal.put_word-requires
put_word-requires c = room (goal.at.put_word-requires c).In-loop-k
