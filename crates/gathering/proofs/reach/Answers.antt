use Prim.Native.Nat.{ℕ, ◌*◌, ◌/◌, ◌<◌}
use mathlib.Core.Path.{◌≡◌, refl, ap, ◌∙◌}
use mathlib.Core.Bool.{true, false}
use native.Mathlib.Omega.{arith}
use lib.ListN.{length, set, length-set}
use Rattle.words.specs.Words.{word_at}
use Rattle.diagram.specs.Reading.{side}
use Rattle.gathering.specs.Inner.{mark, Met}
use Rattle.gathering.proofs.Meeting.{within_room, within_place, met_none, met_next, met_few, met_all}
use Rattle.gathering.proofs.Turning.{turn_inside, turn_first, turn_done, turn_marks}
use Rattle.gathering.proofs.reach.Goals as goal
use Rattle.gathering.proofs.reach.Goals.{After-meet-arg-1, After-node, After-node-in-loop-i, After-record_at-record, At-loop-i}

-- the sink has a mark: nothing is met yet
none-met : (c : After-meet-arg-1) → let a = c.args in Met (word_at a.table.now) (set a.sheet.now (32 * a.p) 1) a.p 0 0 a.v.0
none-met c =
    let p = c.requires in
    met_none _ c.args.sheet.now _ _ _ p.0 (omega (arith, within_place _ _ _ p.1)) p.2 refl

-- the first node is met
first : (c : At-loop-i) → let a = c.args in let m = c.meet-count in
    Met (word_at a.table.now) m.new.sheet a.p 0 m.result a.v.0 × (mark m.new.sheet a.p a.v.0 ≡ 1)
first c =
    let l = within_place _ _ _ c.requires.1 in
    let M = none-met (goal.at.At-loop-i c).After-meet-arg-1 in
    let X = c.meet-count.ensures in
    (met_next _ _ _ _ _ _ _ _ _ M l (omega arith) X (λ n. absurd (n refl)), X.marked)

-- at the loop's head
met : (c : At-loop-i) → let a = c.args in
    Met (word_at a.table.now) c.loop-i.sheet a.p c.loop-i.i c.loop-i.count a.v.0 × (mark c.loop-i.sheet a.p a.v.0 ≡ 1)
met c = let f = first c in c.loop-i.invariant.1 _ (within_place _ _ _ c.requires.1) f.0 f.1

-- the length has stayed
long : (c : At-loop-i) → length c.loop-i.sheet ≡ length c.args.sheet.now
long c = c.loop-i.invariant.0 ∙ c.meet-count.ensures.long ∙ length-set c.args.sheet.now (32 * c.args.p) 1

few : (c : At-loop-i) → c.loop-i.count < c.args.p
few c = met_few _ _ _ _ _ _ (met c).0 (omega (arith, within_place _ _ _ c.requires.1))

pub word_at-u-requires : goal.word_at-u-requires
word_at-u-requires c = omega (arith, c.loop-i-test.true, few (goal.at.word_at-u-requires c).At-loop-i, long (goal.at.word_at-u-requires c).At-loop-i, c.requires.0)

pub record_at-record-requires : goal.record_at-record-requires
record_at-record-requires c =
    let n = (met (goal.at.record_at-record-requires c).At-loop-i).0.nodes _ c.loop-i-test.true in
    let w = c.word_at-u.ensures in
    (omega (arith, w, n.0), omega (arith, w, n.1, within_room _ _ _ c.requires.1))

-- its edges are the node's
edges : (c : After-record_at-record) → let w = word_at c.args.table.now in let u = word_at c.loop-i.sheet c.loop-i.i in
    (c.record_at-record.result.high.value ≡ side w true u) × (c.record_at-record.result.low.value ≡ side w false u)
edges c =
    let w = word_at c.args.table.now in
    let e = c.word_at-u.ensures in
    let r = c.record_at-record.ensures in
    (r.then_is ∙ ap (side w true) e, r.else_is ∙ ap (side w false) e)

-- the nodes of its edges
node-one : (c : After-node) → c.node.result.0 ≡ side (word_at c.args.table.now) true (word_at c.loop-i.sheet c.loop-i.i) / 2
node-one c = c.node.ensures ∙ ap (λ (e : ℕ). e / 2) (edges (goal.at.After-node c).After-record_at-record).0

node-two : (c : After-node-in-loop-i) → c.node-in-loop-i.result.0 ≡ side (word_at c.args.table.now) false (word_at c.loop-i.sheet c.loop-i.i) / 2
node-two c = c.node-in-loop-i.ensures ∙ ap (λ (e : ℕ). e / 2) (edges (goal.at.After-node-in-loop-i c).After-record_at-record).1

pub meet-count-requires-in-loop-i : goal.meet-count-requires-in-loop-i
meet-count-requires-in-loop-i c =
    let I = c.requires.1 in
    let M = (met (goal.at.meet-count-requires-in-loop-i c).At-loop-i).0 in
    let l : c.node.result.0 < c.args.p = rw (node-one c) (turn_inside _ _ _ _ _ _ _ I M c.loop-i-test.true true) in
    (omega (arith, long (goal.at.meet-count-requires-in-loop-i c).At-loop-i, c.requires.0), l, few (goal.at.meet-count-requires-in-loop-i c).At-loop-i, M.bits _ l)

pub meet-count-requires-in-loop-i-2 : goal.meet-count-requires-in-loop-i-2
meet-count-requires-in-loop-i-2 c =
    let I = c.requires.1 in
    let M = (met (goal.at.meet-count-requires-in-loop-i-2 c).At-loop-i).0 in
    let X = c.meet-count-in-loop-i.ensures in
    let N = turn_first _ _ _ _ _ _ _ I M c.loop-i-test.true _ _ _ (node-one (goal.at.meet-count-requires-in-loop-i-2 c).After-node) X in
    let l : c.node-in-loop-i.result.0 < c.args.p = rw (node-two c) (turn_inside _ _ _ _ _ _ _ I M c.loop-i-test.true false) in
    (omega (arith, long (goal.at.meet-count-requires-in-loop-i-2 c).At-loop-i, c.requires.0, X.long), l, met_few _ _ _ _ _ _ N (omega arith), N.bits _ l)

pub loop-i-preserved : goal.loop-i-preserved
loop-i-preserved c =
    let I = c.requires.1 in
    let X = c.meet-count-in-loop-i.ensures in
    let Y = c.meet-count-in-loop-i-2.ensures in (
      Y.long ∙ X.long ∙ c.loop-i.invariant.0,
      λ root l M₀ m₀. let m = c.loop-i.invariant.1 root l M₀ m₀ in (
        turn_done _ _ _ _ _ _ _ I m.0 c.loop-i-test.true _ _ _ (node-one (goal.at.loop-i-preserved c).After-node) X _ _ _ (node-two (goal.at.loop-i-preserved c).After-node-in-loop-i) Y,
        turn_marks _ _ _ _ _ _ _ I m.0 c.loop-i-test.true _ _ _ (node-one (goal.at.loop-i-preserved c).After-node) X _ _ _ (node-two (goal.at.loop-i-preserved c).After-node-in-loop-i) Y root l m.1,
      ),
    )

pub overflow_add-i : goal.overflow_add-i
overflow_add-i c =
    omega (arith, c.loop-i-test.true, few (goal.at.overflow_add-i c).At-loop-i, long (goal.at.overflow_add-i c).At-loop-i, c.requires.0)

pub loop-i-smaller : goal.loop-i-smaller
loop-i-smaller c =
    omega (arith, c.loop-i-test.true, few (goal.at.loop-i-smaller c).At-loop-i)

pub returns : goal.returns
returns c =
    let m = met (goal.at.returns c).At-loop-i in
    let e : c.loop-i.i ≡ c.loop-i.count = omega (arith, m.0.up, c.loop-i-test.false) in
    (long (goal.at.returns c).At-loop-i, met_all e m.0 m.1)
