use Prim.Native.Nat.{◌+◌}
use mathlib.Core.Path.{◌≡◌, sym, ap, ◌∙◌}
use native.Mathlib.Omega.{arith}
use Rattle.words.specs.Words.{word_at, words_over}
use Rattle.words.specs.Swap.{swap}
use Rattle.diagram.proofs.Counts.{share_sink}
use Rattle.counting.specs.Inner.{stored}
use Rattle.counting.proofs.Filling.{Begun, begun, fill_first, fill_next, fill_last, fill_turn}
use Rattle.counting.proofs.fill.Goals as goal
use Rattle.counting.proofs.fill.Goals.{After-store, After-enter_node}

filling : (c : After-store) → Begun (stored (word_at c.args.table.now)) c.store.new.bytes c.args.sheet.now c.args.nodes
unfolding stored
filling c = begun _ _ _ _ _ c.requires.2 c.store.ensures (ap swap (sym (share_sink _)))

pub loop-k-init : goal.loop-k-init
loop-k-init c = (omega arith, fill_first _ _ _ _ (filling (goal.at.loop-k-init c).After-store))

pub enter_node-requires : goal.enter_node-requires
enter_node-requires c =
    let l = c.loop-k-test.true in
    (omega arith, fill_turn _ _ _ c.requires.0 c.requires.1 _ _ _ _ (filling (goal.at.enter_node-requires c).After-store) (omega arith) (omega arith) c.loop-k.invariant.1)

-- node k is entered
entered : (c : After-enter_node) → c.enter_node.new.sheet ≡ words_over (stored (word_at c.args.table.now)) (c.loop-k.k + 1) c.store.new.bytes
entered c =
    let l = c.loop-k-test.true in
    fill_next _ _ _ _ (filling (goal.at.After-enter_node c).After-store) _ _ c.loop-k.invariant.1 (omega arith) _ c.enter_node.ensures

pub loop-k-preserved : goal.loop-k-preserved
loop-k-preserved c = (omega arith, entered (goal.at.loop-k-preserved c).After-enter_node)

-- with no node, and after the last one
pub returns : goal.returns
returns c =
    let i = c.loop-k.invariant in
    let e : c.loop-k.k ≡ c.args.nodes + 1 = omega (arith, c.loop-k-test.false, i.0) in
    fill_last _ _ _ _ (filling (goal.at.returns c).After-store) _ _ i.1 (omega arith) ∙ rw e

pub returns-2 : goal.returns-2
returns-2 c =
    let e : c.loop-k.k ≡ c.args.nodes = omega arith in
    fill_last _ _ _ _ (filling (goal.at.returns-2 c).After-store) _ _ (entered (goal.at.returns-2 c).After-enter_node) (omega arith) ∙ rw e
