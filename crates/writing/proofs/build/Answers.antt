-- `writing::build` meets its contract. Assumes nothing.
use Prim.Native.Nat.{◌+◌, ◌*◌, ◌/◌, ◌≤◌}
use mathlib.Core.Path.{◌≡◌}
use mathlib.Core.Bool.{false}
use native.Mathlib.Omega.{arith}
use lib.ListN.{length}
use Rattle.words.specs.Words.{word_at}
use Rattle.diagram.specs.Ordered.{Ordered}
use Rattle.numbering.specs.Numbered.{Marked, KeepsOrder, AllNumbered}
use Rattle.cutting.specs.Cut.{Cut, cut_edge, TwiceCut}
use Rattle.cutting.specs.Behind.{words_of, SameTable}
use Rattle.cutting.proofs.Behind.{same_back, same_trans, same_sizes}
use Rattle.writing.proofs.Builds.{none_ordered, first_ordered, first_inside, twice_cut, second_inside, built}
use Rattle.writing.proofs.build.Goals.{After-add_cut-edge}
use Rattle.writing.proofs.build.Goals as goal

pub add_cut-lower-requires : goal.add_cut-lower-requires
add_cut-lower-requires c =
    let p = c.requires in
    let d = c.args.cut.now in
    (none_ordered _ _ _ p.1 d.few_settings d.few_nodes _ p.2 _, omega (arith, p.2), omega arith)

pub add_cut-edge-requires : goal.add_cut-edge-requires
add_cut-edge-requires c =
    let p = c.requires in
    let d = c.args.cut.now in
    let k = c.add_cut-lower.ensures in
    let w = word_at d.table.now in
    same_sizes k.2 (λ n N. Ordered (words_of c.add_cut-lower.new.self) n (N + n) × (c.add_cut-lower.result.value / 2 ≤ N + n) × (n ≤ 63)) (
      first_ordered w _ _ p.1 d.few_settings d.few_nodes _ p.2 _ _ w _ 0 _ 0 k.0 k.1,
      first_inside w _ _ p.1 d.few_settings d.few_nodes _ p.2 _ _ w _ 0 _ 0 k.0 k.1,
      d.few_settings,
    )

-- both cuts are over the table at the start
same : (c : After-add_cut-edge) → SameTable c.args.cut.now c.add_cut-edge.new.self
same c = same_trans c.add_cut-lower.ensures.2 c.add_cut-edge.ensures.2

-- the second cut
second : (c : After-add_cut-edge) → Cut (words_of c.add_cut-lower.new.self) c.args.cut.now.n (c.args.cut.now.nodes + c.args.cut.now.n) c.args.hi.0 c.add_cut-lower.result.value false (words_of c.add_cut-edge.new.self)
    × (c.add_cut-edge.result.value ≡ cut_edge (words_of c.add_cut-lower.new.self) (c.args.cut.now.nodes + c.args.cut.now.n) c.args.cut.now.n c.args.hi.0 c.add_cut-lower.result.value c.args.cut.now.n)
second c =
    let a = c.add_cut-lower in
    let b = c.add_cut-edge in
    same_sizes (same_back a.ensures.2) (λ n N. Cut (words_of a.new.self) n (N + n) c.args.hi.0 a.result.value false (words_of b.new.self)
    × (b.result.value ≡ cut_edge (words_of a.new.self) (N + n) n c.args.hi.0 a.result.value n)) (b.ensures.0, b.ensures.1)

-- the nodes are those of a table and of two cuts, and the root is one of them
twice : (c : After-add_cut-edge) → TwiceCut (words_of c.add_cut-edge.new.self) c.args.cut.now.n c.args.cut.now.nodes
    × (c.add_cut-edge.result.value / 2 ≤ c.args.cut.now.nodes + c.args.cut.now.n + c.args.cut.now.n)
twice c =
    let p = c.requires in
    let d = c.args.cut.now in
    let k = c.add_cut-lower.ensures in
    let m = second c in (
      twice_cut _ _ _ p.1 d.few_settings d.few_nodes _ p.2 _ _ _ _ _ _ _ k.0 k.1 m.0 m.1,
      second_inside _ _ _ p.1 d.few_settings d.few_nodes _ p.2 _ _ _ _ _ _ _ k.0 k.1 m.0 m.1,
    )

pub mark-requires : goal.mark-requires
mark-requires c =
    let a = (goal.at.mark-requires c).After-add_cut-edge in
    same_sizes (same a) (λ n N. (8 * (N + n + n) + 8 ≤ length c.args.map.now) × Ordered (words_of c.add_cut-edge.new.self) n (N + n + n) × (c.add_cut-edge.result.value / 2 ≤ N + n + n))
    (c.requires.0, (twice a).0.ordered, (twice a).1)

pub number-records-requires : goal.number-records-requires
number-records-requires c =
    let a = (goal.at.number-records-requires c).After-add_cut-edge in
    let q = c.mark.ensures in
    let t = same_sizes (same a) (λ n N. (8 * (N + n + n) + 8 ≤ length c.args.map.now) × TwiceCut (words_of c.add_cut-edge.new.self) n N) (c.requires.0, (twice a).0) in
    (omega (arith, t.0, q.1), t.1, q.0.marks)

pub returns : goal.returns
returns c =
    let a = (goal.at.returns c).After-add_cut-edge in
    let p = c.requires in
    let d = c.args.cut.now in
    let k = c.add_cut-lower.ensures in
    let m = second a in
    let q = c.mark.ensures in
    let e = c.number-records.ensures in
    let R = words_of c.add_cut-edge.new.self in
    let t = same_sizes (same_back (same a)) (λ n N. Marked R (word_at c.mark.new.map) (N + n + n) c.add_cut-edge.result.value × AllNumbered R (word_at c.number-records.new.map) (N + n + n) c.number-records.result
    × KeepsOrder (word_at c.number-records.new.map) (N + 1) × (c.number-records.result ≤ N + n + n)) (q.0, e.0, e.1, e.3) in (
      built _ _ _ p.1 d.few_settings d.few_nodes _ p.2 _ _ _ _ _ _ _ k.0 k.1 m.0 m.1 p.3 p.4 _ _ _ t.0 e.2 t.1 t.2 t.3,
      same a,
      omega (arith, q.1, e.4),
    )
