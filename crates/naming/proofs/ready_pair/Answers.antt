-- `naming::ready_pair` meets its contract. Assumes nothing.
use Prim.Native.Nat.{◌+◌, ◌*◌, ◌≤◌}
use mathlib.Core.Path.{◌∙◌}
use native.Mathlib.Omega.{arith}
use lib.ListN.{length}
use borrow.Author.Rules.{rules}
use Rattle.words.proofs.Stores.{stored, stored_long}
use Rattle.naming.proofs.Readying.{readied_tall, readied_sink}
use Rattle.naming.proofs.ready_pair.Goals as goal
use Rattle.naming.proofs.ready_pair.Goals.{After-put_word}

room : (c : After-put_word) → 8 * (2 * c.args.p + c.args.i) + 8 ≤ length c.args.sheet.now
room c = let p = c.requires in omega (arith, p.0, p.1)

pub returns-then-h-eq0 : goal.returns-then-h-eq0
returns-then-h-eq0 c =
    let p = c.requires in
    let e = c.put_word.ensures in
    let l = stored_long _ _ _ _ e (room (goal.at.returns-then-h-eq0 c).After-put_word) in
    let d = c.put_word-then-h-eq0.ensures in (
      readied_sink _ _ _ _ _ _ _ _ _ p.1 c.word_at-pair.ensures c.pair_height-h.ensures.0 (stored _ _ _ _ e (room (goal.at.returns-then-h-eq0 c).After-put_word) (search rules)) c.if-h-eq0.true _ _
          c.flag_of-flag.ensures (stored _ _ _ _ d (omega (arith, p.0, p.1, l)) (search rules)),
      stored_long _ _ _ _ d (omega (arith, p.0, p.1, l)) ∙ l,
    )

pub returns-else-h-eq0 : goal.returns-else-h-eq0
returns-else-h-eq0 c =
    let p = c.requires in
    let e = c.put_word.ensures in
    (readied_tall _ _ _ _ _ _ _ _ _ p.1 c.word_at-pair.ensures c.pair_height-h.ensures.0 (stored _ _ _ _ e (room (goal.at.returns-else-h-eq0 c).After-put_word) (search rules)) c.if-h-eq0.false, stored_long _ _ _ _ e (room (goal.at.returns-else-h-eq0 c).After-put_word))
