-- `pairing::put_edges` meets its contract. Assumes nothing.
use Prim.Native.Nat.{◌+◌, ◌*◌, ◌≤◌}
use mathlib.Core.Path.{◌≡◌, ◌∙◌}
use native.Mathlib.Omega.{arith}
use lib.ListN.{length}
use Rattle.words.proofs.Stores.{stored, stored_long}
use Rattle.pairing.proofs.Visiting.{edges_put}
use Rattle.pairing.proofs.put_edges.Goals as goal
use Rattle.pairing.proofs.put_edges.Goals.{After-put_word}

low : (c : After-put_word) → 8 * (c.args.p + c.args.i) + 8 ≤ length c.args.sheet.now
low c = let p = c.requires in omega (arith, p.0, p.1)

-- the length after the first store
long : (c : After-put_word) → length c.put_word.new.bytes ≡ length c.args.sheet.now
long c = stored_long _ _ _ _ c.put_word.ensures (low c)

high : (c : After-put_word) → 8 * (3 * c.args.p + c.args.i) + 8 ≤ length c.put_word.new.bytes
high c = let p = c.requires in omega (arith, p.0, p.1, long c)

pub returns : goal.returns
returns c =
    let p = c.requires in (
      stored_long _ _ _ _ c.put_word-2.ensures (high (goal.at.returns c).After-put_word) ∙ long (goal.at.returns c).After-put_word,
      edges_put _ _ _ _ _ _ _ p.1 (stored _ _ _ _ c.put_word.ensures (low (goal.at.returns c).After-put_word) (omega (arith, p.0, p.2)))
          (stored _ _ _ _ c.put_word-2.ensures (high (goal.at.returns c).After-put_word) (omega (arith, p.0, p.3))),
    )
