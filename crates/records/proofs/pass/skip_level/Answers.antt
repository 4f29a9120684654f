use Prim.Native.Nat.{◌+◌, ◌/◌, ◌≤◌, ◌<◌}
use mathlib.Core.Path.{◌≡◌, refl, ◌∙◌}
use native.Mathlib.Omega.{arith}
use native.Mathlib.Nat.{le_refl}
use lib.ListN.{length}
use Rattle.words.specs.Words.{word_at}
use Rattle.diagram.specs.Count.{indicator}
use Rattle.records.specs.Inner.{PassFrom}
use Rattle.records.proofs.Levels.{level_next}
use Rattle.records.proofs.Marks.{marks_next}
use Rattle.records.proofs.pass.skip_level.Goals as goal
use Rattle.records.proofs.pass.skip_level.Goals.{After-from}

pub returns-then-height_at-h : goal.returns-then-height_at-h
returns-then-height_at-h c = let p = c.requires in (le_refl _, p.1, λ n e. e, refl, p.5)

pub word-limit-requires : goal.word-limit-requires
unfolding indicator
word-limit-requires c = (c.height_at-h.ensures.1, omega (arith, c.new-first.ensures), omega arith)

pub loop-at-init : goal.loop-at-init
loop-at-init c =
    let p = c.requires in
    (le_refl _, p.1, omega (arith, c.word_at-before.ensures), c.word_at-before.ensures, λ n e. e, refl, p.5)

pub returns-then-not-in_level : goal.returns-then-not-in_level
returns-then-not-in_level c = let i = c.loop-at.invariant in (i.0, i.1, i.4, i.5, i.6)

-- the record is in the level: it is above record k, each node that it names has a mark, and it passes if those up to k do
found : (c : After-from) → let w = word_at c.args.table.now in let k = c.args.k in let r = c.from.result in let m = c.loop-at.marks in
    (w k ≤ c.word_at-word.result) × (r.high.value / 2 < length m) × (r.low.value / 2 < length m) × PassFrom w k (c.loop-at.at + 1)
found c =
    let p = c.requires in
    let i = c.loop-at.invariant in
    let f = c.in_level.ensures c.if-not-in_level.false in
    let n = level_next _ _ _ _ _ _ _ _ _ _ _ _ p.0 (omega arith) c.height_at-h.ensures.0 c.height_at.ensures.0
    c.if-height_at-h.false c.new-first.ensures c.word-limit.ensures i.0 i.2 i.3 c.word_at-word.ensures f c.from.ensures i.4 in
    (omega (arith, f.ascends), omega arith, omega arith, n.2)

pub loop-at-preserved : goal.loop-at-preserved
loop-at-preserved c =
    let i = c.loop-at.invariant in
    let l = c.loop-at-test.true in
    let word_is = c.word_at-word.ensures in
    let f = found (goal.at.loop-at-preserved c).After-from in
    let n = marks_next _ _ _ _ _ _ _ _ word_is c.from.ensures f.1 f.2 c.mark_named.ensures i.6 in
    (omega arith, omega arith, f.0, word_is, f.3, n.0 ∙ i.5, n.1)

pub returns : goal.returns
returns c =
    let i = c.loop-at.invariant in
    let e : c.loop-at.at ≡ c.args.nodes = omega (arith, c.loop-at-test.false, i.1) in
    rw (← e) (i.0, le_refl _, i.4, i.5, i.6)

pub mark_named-requires : goal.mark_named-requires
mark_named-requires c = ((found c).1, (found c).2)
