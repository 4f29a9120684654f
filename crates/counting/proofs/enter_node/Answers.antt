-- `counting::enter_node` meets its contract: half the shares of the two edges. Assumes nothing.
use Prim.Native.Nat.{◌+◌, ◌/◌, ◌<◌}
use mathlib.Core.Path.{◌≡◌, ap, ◌∙◌}
use borrow.Author.Rules.{rules}
use Rattle.words.specs.Words.{word_at, put_word}
use Rattle.words.specs.Swap.{swap}
use Rattle.diagram.specs.Reading.{share}
use Rattle.counting.specs.Inner.{stored}
use Rattle.counting.proofs.Shares.{high_filled, low_opens, share_sum}
use Rattle.counting.proofs.enter_node.Goals as goal
use Rattle.counting.proofs.enter_node.Goals.{After-share_of}

pub load-requires : goal.load-requires
load-requires c =
    let p = c.requires in
    rw c.node.ensures (high_filled _ _ _ _ _ _ p.0 p.1 c.record_at-record.ensures).room

pub share_of-requires : goal.share_of-requires
share_of-requires c =
    let p = c.requires in
    (_, low_opens _ _ _ _ _ _ p.0 p.1 c.record_at-record.ensures)

halves : (c : After-share_of) → let s = c.load.result / 2 + c.share_of.result / 2 in
    (s ≡ share (word_at c.args.table.now) c.args.k.0) × (s < 18446744073709551616)
halves c =
    share_sum _ _ _ _ _ _ c.requires.0 c.requires.1 c.record_at-record.ensures _ _ _ c.node.ensures (search rules) c.load.ensures c.share_of.ensures

pub returns : goal.returns
unfolding stored
returns c =
    c.store.ensures ∙ ap (put_word c.args.sheet.now c.args.k.0) (ap swap (halves (goal.at.returns c).After-share_of).0)
