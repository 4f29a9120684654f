-- Numbering a table with two cuts: the order of the new records. Assumes nothing.
use Prim.Native.Nat.{ℕ, zero, suc, ◌+◌, ◌/◌, ◌%◌, ◌^◌, ◌≤◌, ◌<◌}
use mathlib.Core.Path.{◌≡◌, sym, ap, ◌∙◌}
use mathlib.Core.Bool.{Bool, true, false, cond}
use native.Mathlib.Omega.{arith}
use Rattle.words.proofs.Cases.{less, same, more, tri}
use Rattle.diagram.specs.Format.{Words, high_field, middle_field, low_field, height, then_edge, else_edge}
use Rattle.diagram.specs.Ordered.{Ordered}
use Rattle.diagram.specs.Reading.{turn}
use Rattle.diagram.proofs.Paths.{side, side_node}
use Rattle.diagram.proofs.Ascending.{ascending}
use Rattle.numbering.specs.Renewal.{image, renew, StaysPlain}
use Rattle.numbering.specs.Numbered.{Numbered, Keyed}
use Rattle.numbering.proofs.Images.{normal_side, image_side, renew_node}
use Rattle.numbering.proofs.Renumber.{closed_side, renew_high, renew_positive, side_lt}
use Rattle.numbering.proofs.Plain.{image_rises, stays_plain, then_even, edges_differ}
use Rattle.cutting.specs.Cut.{TwiceCut}
use Rattle.merging.specs.Inner.{Done, Merging}
use Rattle.merging.proofs.Order.{word_order}

-- the then-edge of a kept node's record z stays plain, and its edges different
pub record Plain (W : Words) (z : ℕ) : Type 0 where
  pub stays : StaysPlain W z
  pub even : image W (middle_field z) % 2 ≡ 0
  pub some : renew W z ≡ 0 → ⊥
  pub differ : middle_field (renew W z) ≡ low_field (renew W z) → ⊥

-- there are no more records than nodes before the fronts, and they can be read off
module _ (R W : Words) (n N c last p q r : ℕ) (X : TwiceCut R n N) (G : Merging R W n N c last p q r) where
  pub few_records : c ≤ N + n + n
  few_records = omega (arith, G.count, G.fronts.p_high, G.fronts.high true, G.fronts.high false)

  pub merging_keyed : n ≤ 63 → N ≤ 65535 → Keyed R W n (N + n + n)
  merging_keyed a b = record { ordered = X.ordered; closed = G.going.closed; small = λ v l. omega (arith, G.going.numbered.small v l, few_records) }

module _ (R W : Words) (n N c last p q r : ℕ) (X : TwiceCut R n N) (G : Merging R W n N c last p q r) (few : c < 268435454) where
  abbrev M : ℕ
  M = N + n + n

  S : Numbered R W G.going.list M c (Done N n p q r)
  S = G.going.numbered

  D : Ordered R n M
  D = X.ordered

  -- a node's new record has its height
  pub high : (v : ℕ) → 0 < v → v ≤ M → high_field (renew W (R v)) ≡ height R v
  high zero l m = absurd (omega arith)
  high (suc v) l m = renew_high R W G.going.list n M c (Done N n p q r) D G.going.closed S (omega arith) v m

  -- so a higher node has a greater record
  pub taller : (u v : ℕ) → 0 < u → 0 < v → u ≤ M → v ≤ M → height R u < height R v → renew W (R u) < renew W (R v)
  taller u v a b l m q = let i = high u a l in let j = high v b m in unfold high_field in omega arith

  pub not_taller : (u v : ℕ) → 0 < u → 0 < v → u ≤ M → v ≤ M → renew W (R u) ≤ renew W (R v) → height R u ≤ height R v
  not_taller u v a b l m q = let i = high u a l in let j = high v b m in unfold high_field in omega arith

  -- the table's nodes stand by height
  pub sorted : (i k : ℕ) → 0 < i → i ≤ k → k ≤ N → height R i ≤ height R k
  unfolding height high_field
  sorted zero k l m a = absurd (omega arith)
  sorted (suc i) zero l m a = absurd (omega arith)
  sorted (suc i) (suc k) l m a =
      elim (tri i k) [ less s ↦ omega (arith, ascending R n N X.table i k s a) | same s ↦ omega (arith, ap (λ (j : ℕ). R (suc j) / 2 ^ 58) s) | more s ↦ absurd (omega arith) ]

  -- a node of the table whose edges lead before p: its new record
  module _ (i : ℕ) (inside : i < N) (live : 0 < W (suc i)) (before : (b : Bool) → side R b (suc i) / 2 < p) where
    field : (b : Bool) → cond b (middle_field (renew W (R (suc i)))) (low_field (renew W (R (suc i)))) ≡ image W (side R b (suc i))
    unfolding turn
    field b =
        let t = image W (then_edge R (suc i)) in
        let e = image W (else_edge R (suc i)) in
        let lt : (b : Bool) → image W (side R b (suc i)) < 536870912 =
        λ b. side_lt R W G.going.list n M c (Done N n p q r) D G.going.closed S (omega arith) b i (omega arith) in
        ap (λ (z : ℕ). cond b (middle_field z) (low_field z)) (renew_node R W i) ∙ normal_side (height R (suc i)) t e (lt true) (lt false) b
        ∙ ap (λ (f : ℕ). turn f (cond b t e)) (then_even R W n N M p X.table (omega arith) G.going.closed G.kept i inside live before) ∙ image_side R W (suc i) b

  -- new records of the table's nodes keep their order
  pub ordered : (i k : ℕ) → i < k → k < N → 0 < W (suc i) → 0 < W (suc k) → ((b : Bool) → side R b (suc i) / 2 < p) → ((b : Bool) → side R b (suc k) / 2 < p)
      → renew W (R (suc i)) < renew W (R (suc k))
  unfolding height then_edge else_edge
  ordered i k l m a b bi bk =
      let o : i < N = omega arith in
      let fi = field i o a bi in
      let fk = field k m b bk in
      let rises : (d : Bool) → side R d (suc i) < side R d (suc k) → image W (side R d (suc i)) < image W (side R d (suc k)) =
      λ d s. image_rises R W n N M p X.table (omega arith) G.going.closed G.kept (side R d (suc i)) (side R d (suc k)) (bi d) (bk d)
      (closed_side R W M G.going.closed d i (omega arith) a) (closed_side R W M G.going.closed d k (omega arith) b) s in
      word_order (R (suc i)) (R (suc k)) (renew W (R (suc i))) (renew W (R (suc k))) (high (suc i) (omega arith) (omega arith)) (high (suc k) (omega arith) (omega arith))
      (λ s. rw (fi true, fk true) (rises true s))
      (λ s. fi true ∙ ap (image W) s ∙ sym (fk true))
      (λ s. rw (fi false, fk false) (rises false s))
      (ascending R n N X.table i k l m)

  -- the table's next node, if it is kept
  pub front_plain : (v : ℕ) → p ≡ v → v ≤ N → 0 < W v → Plain W (R v)
  unfolding then_edge
  front_plain zero e l k = absurd (omega (arith, G.fronts.p_low))
  front_plain (suc v) e l k =
      let before : (b : Bool) → side R b (suc v) / 2 < p = λ b. omega (arith, side_node R n N X.table.ordered b v l) in
      let f = field v l k before in
      record {
        stays = stays_plain R W n N M p X.table (omega arith) G.going.closed G.kept v l k before;
        even = then_even R W n N M p X.table (omega arith) G.going.closed G.kept v l k before;
        some = λ s. omega (arith, renew_positive R W G.going.list n M c (Done N n p q r) D G.going.closed S (omega arith) v (omega arith));
        differ = λ s. edges_differ R W n N M p X.table (omega arith) G.going.closed G.kept v l k before (sym (f true) ∙ s ∙ f false);
      }
