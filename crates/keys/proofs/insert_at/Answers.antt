-- `keys::insert_at` meets its contract. Assumes nothing.
use Prim.Native.Nat.{◌+◌, ◌*◌, ◌≤◌, ◌<◌}
use mathlib.Core.Path.{◌≡◌, ◌∙◌}
use native.Mathlib.Omega.{arith}
use lib.ListN.{length}
use Rattle.words.proofs.Stores.{stored, stored_long}
use Rattle.keys.proofs.Inserting.{open_below, inserted}
use Rattle.keys.proofs.insert_at.Goals as goal
use Rattle.keys.proofs.insert_at.Goals.{After-put_word}

below : (c : After-put_word) → c.args.slot < c.args.p
below c = let p = c.requires in open_below _ _ _ _ p.5 (omega (arith, p.3))

-- both words lie in the memory
low : (c : After-put_word) → 8 * c.args.count + 8 ≤ length c.args.sheet.now
low c = let p = c.requires in omega (arith, p.0, p.3)

pub overflow_add-p : goal.overflow_add-p
overflow_add-p c = omega (arith, below (goal.at.overflow_add-p c).After-put_word, c.requires.0)

-- the length after the first store
long : (c : After-put_word) → length c.put_word.new.bytes ≡ length c.args.sheet.now
long c = stored_long _ _ _ _ c.put_word.ensures (low c)

high : (c : After-put_word) → 8 * (2 * c.args.p + c.args.slot) + 8 ≤ length c.put_word.new.bytes
high c = omega (arith, below c, c.requires.0, long c)

pub returns : goal.returns
returns c =
    let p = c.requires in (
      stored_long _ _ _ _ c.put_word-2.ensures (high (goal.at.returns c).After-put_word) ∙ long (goal.at.returns c).After-put_word,
      inserted _ _ _ _ _ _ _ p.2 p.1 p.3 p.4 p.5 (stored _ _ _ _ c.put_word.ensures (low (goal.at.returns c).After-put_word) (omega (arith, p.1)))
          (stored _ _ _ _ c.put_word-2.ensures (high (goal.at.returns c).After-put_word) (omega arith)),
    )

pub put_word-requires-2 : goal.put_word-requires-2
put_word-requires-2 c = high (goal.at.put_word-requires-2 c).After-put_word
