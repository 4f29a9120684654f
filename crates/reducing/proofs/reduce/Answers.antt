use Prim.Native.Nat.{◌+◌, ◌-◌}
use mathlib.Core.Path.{◌≡◌, refl, ◌∙◌}
use native.Mathlib.Omega.{arith}
use lib.ListN.{length}
use borrow.Author.Tests.{leb-true}
use Rattle.words.specs.Words.{word_at}
use Rattle.reducing.specs.Steps.{Nodes, Staged}
use Rattle.reducing.proofs.Stages.{nodes_of, Begin, staged_first, staged_ready, staged_numbers, staged_few}
use Rattle.reducing.proofs.reduce.Goals as goal
use Rattle.reducing.proofs.reduce.Goals.{After-level-c, At-loop-h}

-- the nodes of the sheet, numbered below height h
abbrev nodes : At-loop-h → Nodes
nodes c = nodes_of (word_at c.args.sheet.now) c.args.p c.args.n c.args.count

staged : (c : At-loop-h) → Staged (nodes c) (word_at c.loop-h.sheet) c.args.p c.loop-h.c (c.loop-h.h - 1)
staged c = let L = c.link.ensures.1 in c.loop-h.invariant.3 (nodes c) refl (staged_first _ _ _ _ c.requires.2 _ _ L) L.begins

pub level-c-requires : goal.level-c-requires
level-c-requires c =
    let p = c.requires in
    let i = c.loop-h.invariant in
    let L = c.link.ensures in
    let t = c.loop-h-test.true in (
      omega (arith, p.0, L.0, i.2),
      (nodes (goal.at.level-c-requires c).At-loop-h, staged_ready _ _ _ _ _ _ _ (staged (goal.at.level-c-requires c).At-loop-h) (omega arith) (omega (arith, p.1)) i.1 (L.1.begins _ (omega (arith, p.1))) (leb-true _ _)),
    )

-- the nodes that stood there are numbered up to height h
raised : (c : After-level-c) (D : Nodes) → D.count ≡ c.args.count
    → Staged D (word_at c.loop-h.sheet) c.args.p c.loop-h.c (c.loop-h.h - 1)
    → Begin D c.link.new.heads → Staged D (word_at c.level-c.new.sheet) c.args.p c.level-c.result c.loop-h.h
raised c D q S B =
    let p = c.requires in
    let t = c.loop-h-test.true in
    c.level-c.ensures.1 D (staged_ready _ _ _ _ _ _ _ S (omega arith) (omega (arith, p.1)) c.loop-h.invariant.1 (B _ (omega (arith, p.1))) (rw q (leb-true _ _)))

-- the length has stayed
long : (c : At-loop-h) → length c.loop-h.sheet ≡ length c.args.sheet.now
long c = c.loop-h.invariant.2 ∙ c.link.ensures.0

pub returns-then-c-gt65535 : goal.returns-then-c-gt65535
returns-then-c-gt65535 c =
    let t = c.loop-h-test.true in
    let S = raised (goal.at.returns-then-c-gt65535 c).After-level-c (nodes (goal.at.returns-then-c-gt65535 c).At-loop-h) refl (staged (goal.at.returns-then-c-gt65535 c).At-loop-h) c.link.ensures.1.begins in
    (c.level-c.ensures.0 ∙ long (goal.at.returns-then-c-gt65535 c).At-loop-h, (c.level-c.result, c.loop-h.h, omega arith, t, staged_numbers _ _ _ _ _ _ _ S))

pub loop-h-preserved : goal.loop-h-preserved
loop-h-preserved c =
    let i = c.loop-h.invariant in
    let e : c.loop-h.h + 1 - 1 ≡ c.loop-h.h = omega arith in
    (omega arith, omega arith, c.level-c.ensures.0 ∙ i.2, λ D q S B. rw e (raised (goal.at.loop-h-preserved c).After-level-c D q (i.3 D q S B) B))

pub returns : goal.returns
returns c =
    let e : c.loop-h.h - 1 ≡ c.args.n = omega (arith, c.loop-h-test.false) in
    let S = staged (goal.at.returns c).At-loop-h in
    (long (goal.at.returns c).At-loop-h, (c.loop-h.invariant.1, staged_few (word_at c.args.sheet.now) _ _ _ _ _ _ S, rw (← e) (staged_numbers _ _ _ _ _ _ _ S)))

pub returns-else-c-gt65535 : goal.returns-else-c-gt65535
returns-else-c-gt65535 c =
    let t = c.loop-h-test.true in
    let e : c.loop-h.h ≡ c.args.n = omega arith in
    let S = raised (goal.at.returns-else-c-gt65535 c).After-level-c (nodes (goal.at.returns-else-c-gt65535 c).At-loop-h) refl (staged (goal.at.returns-else-c-gt65535 c).At-loop-h) c.link.ensures.1.begins in
    (c.level-c.ensures.0 ∙ long (goal.at.returns-else-c-gt65535 c).At-loop-h, (omega arith, staged_few (word_at c.args.sheet.now) _ _ _ _ _ _ S, rw (← e) (staged_numbers _ _ _ _ _ _ _ S)))
