use Prim.Native.Nat.{◌+◌}
use mathlib.Core.Path.{◌≡◌, sym, ◌∙◌}
use native.Mathlib.Omega.{arith}
use borrow.Author.Rules.{rules}
use Rattle.words.specs.Words.{word_at, words_over}
use Rattle.diagram.specs.Count.{place}
use Rattle.counting.proofs.Places.{place_sink}
use Rattle.counting.proofs.Filling.{Begun, begun, fill_first, fill_last, settle_next}
use Rattle.counting.proofs.settle.Goals as goal
use Rattle.counting.proofs.settle.Goals.{After-put_word, After-put_word-in-loop-k, At-loop-k}

filling : (c : After-put_word) → Begun (place (word_at c.args.table.now)) c.put_word.new.bytes c.args.sheet.now c.args.nodes
filling c = begun _ _ _ _ _ (omega (arith, c.requires.room)) c.put_word.ensures (sym (place_sink _))

pub loop-k-init : goal.loop-k-init
loop-k-init c = (omega arith, fill_first _ _ _ _ (filling (goal.at.loop-k-init c).After-put_word))

-- place k is settled
settles : (c : After-put_word-in-loop-k) → c.put_word-in-loop-k.new.bytes ≡ words_over (place (word_at c.args.table.now)) (c.loop-k.k + 1) c.put_word.new.bytes
settles c =
    let l = c.loop-k-test.true in
    settle_next _ _ _ _ c.requires (filling (goal.at.After-put_word-in-loop-k c).After-put_word) _ _ _ _ _ (omega arith) (omega arith) c.loop-k.invariant.1 c.height_at-h.ensures.0 (search rules) c.load-s.ensures c.put_word-in-loop-k.ensures

pub loop-k-preserved : goal.loop-k-preserved
loop-k-preserved c = (omega arith, settles (goal.at.loop-k-preserved c).After-put_word-in-loop-k)

-- with no node, and after the last one
pub returns : goal.returns
returns c =
    let i = c.loop-k.invariant in
    let e : c.loop-k.k ≡ c.args.nodes + 1 = omega (arith, c.loop-k-test.false, i.0) in
    fill_last _ _ _ _ (filling (goal.at.returns c).After-put_word) _ _ i.1 (omega arith) ∙ rw e

pub returns-2 : goal.returns-2
returns-2 c =
    let e : c.loop-k.k ≡ c.args.nodes = omega arith in
    fill_last _ _ _ _ (filling (goal.at.returns-2 c).After-put_word) _ _ (settles (goal.at.returns-2 c).After-put_word-in-loop-k) (omega arith) ∙ rw e
