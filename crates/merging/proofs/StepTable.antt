-- The next node of the table is numbered, or passed if it is left out. Assumes nothing.
use Prim.Native.Nat.{ℕ, zero, suc, ◌+◌, ◌*◌, ◌/◌, ◌%◌, ◌≤◌, ◌<◌}
use mathlib.Core.Path.{◌≡◌, ap}
use mathlib.Core.Logic.{inl, inr}
use mathlib.Core.Bool.{Bool, true, false}
use native.Mathlib.Omega.{arith}
use Rattle.words.proofs.Cases.{less, same, more, tri}
use Rattle.diagram.specs.Format.{Words, high_field, height, then_edge, else_edge}
use Rattle.diagram.proofs.Paths.{side, side_node}
use Rattle.numbering.specs.Renewal.{image, renew}
use Rattle.numbering.specs.Numbered.{Good, dropped, made, KeepsOrder}
use Rattle.numbering.proofs.Images.{renew_node}
use Rattle.numbering.proofs.Plain.{then_even, edges_differ}
use Rattle.numbering.proofs.Assign.{Adds}
use Rattle.numbering.proofs.Going.{Assigned, equal_edges, repeated, another}
use Rattle.numbering.proofs.Given.{Placed, left_out, placed, placed_count, placed_going}
use Rattle.cutting.specs.Cut.{TwiceCut}
use Rattle.merging.specs.Inner.{cut_node, Done, in_table, in_cut, Merging}
use Rattle.merging.proofs.Merge.{high, ordered}
use Rattle.merging.proofs.Least.{Chosen, ready, least}

-- the table's front is a node further
pub table_adds : (N n p q r : ℕ) → p ≤ N → Adds (Done N n p q r) (Done N n (p + 1) q r) p
table_adds N n p q r l = record {
  fresh = elim [ in_table a ↦ omega arith | in_cut d i j ↦ cut d i ];
  old = λ u. elim [ in_table a ↦ in_table (omega arith) | in_cut d i j ↦ in_cut d i j ];
  new = in_table (omega arith);
  only = λ u. elim [ in_table a ↦ elim (tri u p) [ less s ↦ inr (in_table s) | same s ↦ inl s | more s ↦ absurd (omega arith) ] | in_cut d i j ↦ inr (in_cut d i j) ];
}
  where
    cut : (d : Bool) → cut_node N n d 0 < p → ⊥
    cut true i = omega arith
    cut false i = omega arith

module _ (R W W' : Words) (n N c last v q r c' last' : ℕ) (X : TwiceCut R n N) (G : Merging R W n N c last (suc v) q r) (few : c < 268435454) (l : v < N) where
  -- the edges of a node up to v + 1 lead before it
  before : (i : ℕ) → i ≤ v → (b : Bool) → side R b (suc i) / 2 < suc v
  before i m b = omega (arith, side_node R n N X.table.ordered b i (omega arith))

  -- the place x that node v + 1 gets is of a plain edge, and above those of the nodes before it
  module _ (x : ℕ) (live : 0 < W (suc v)) (A : Assigned (image W (then_edge R (suc v))) (image W (else_edge R (suc v))) (renew W (R (suc v))) c last x c' last') where
    flag : image W (then_edge R (suc v)) % 2 ≡ 0
    flag = then_even R W n N (N + n + n) (suc v) X.table (omega arith) G.going.closed G.kept v l live (before v (omega arith))

    differ : image W (then_edge R (suc v)) ≡ image W (else_edge R (suc v)) → ⊥
    differ = edges_differ R W n N (N + n + n) (suc v) X.table (omega arith) G.going.closed G.kept v l live (before v (omega arith))

    x_odd : x % 2 ≡ 1
    x_odd = go A
      where
        go : Assigned (image W (then_edge R (suc v))) (image W (else_edge R (suc v))) (renew W (R (suc v))) c last x c' last' → x % 2 ≡ 1
        go (equal_edges a b d f) = absurd (differ a)
        go (repeated a b d f g) = omega (arith, flag)
        go (another a b d f g) = omega (arith, flag)

    -- so is the number of the last record, where it is repeated
    repeated_above : (i : ℕ) → i < suc v → 0 < W i → renew W (R (suc v)) ≡ last → x ≡ suc (2 * c + image W (then_edge R (suc v)) % 2) → W i < x
    repeated_above zero m k z y = omega (arith, G.going.numbered.sink, some c G.going.latest)
      where
        some : (a : ℕ) → G.going.list a ≡ last → 0 < a
        some zero s =
            let h = high R W n N c last (suc v) q r X G few (suc v) (omega arith) (omega arith) in
            let t = X.table.ordered.tall v l in
            absurd (unfold high_field in omega (arith, G.going.numbered.base))
        some (suc a) s = omega arith
    repeated_above (suc i) m k z y = go (G.going.numbered.good i (omega arith) k (in_table m))
      where
        o : i < N
        o = omega arith

        go : Good (height R (suc i)) (image W (then_edge R (suc i))) (image W (else_edge R (suc i))) (W (suc i)) G.going.list c → W (suc i) < x
        go (dropped a b) = absurd (edges_differ R W n N (N + n + n) (suc v) X.table (omega arith) G.going.closed G.kept i o k (before i (omega arith)) a)
        go (made j a b d f) =
            let s = ordered R W n N c last (suc v) q r X G few i v (omega arith) l k live (before i (omega arith)) (before v (omega arith)) in
            let g = then_even R W n N (N + n + n) (suc v) X.table (omega arith) G.going.closed G.kept i o k (before i (omega arith)) in
            let apart : suc j ≡ c → ⊥ = λ w. omega (arith, ap G.going.list w, G.going.latest, f, renew_node R W i) in
            elim (tri (suc j) c) [ less w ↦ omega arith | same w ↦ absurd (apart w) | more w ↦ absurd (omega arith) ]

    x_above : (i : ℕ) → i < suc v → 0 < W i → W i < x
    x_above i m k = go A
      where
        go : Assigned (image W (then_edge R (suc v))) (image W (else_edge R (suc v))) (renew W (R (suc v))) c last x c' last' → W i < x
        go (equal_edges a b d f) = absurd (differ a)
        go (repeated a b d f g) = repeated_above i m k b d
        go (another a b d f g) = omega (arith, G.going.numbered.small i (omega arith))

  -- the places before the next front keep their order
  kept : Placed R W W' (suc v) c last c' last' → KeepsOrder W' (suc v + 1)
  kept (left_out z e a b) = rw e (record {
    plain = λ i o k. elim (tri i (suc v)) [ less s ↦ G.kept.plain i s k | same s ↦ absurd (omega (arith, ap W s)) | more s ↦ absurd (omega arith) ];
    rises = λ i k a o x y. elim (tri k (suc v)) [ less s ↦ G.kept.rises i k a s x y | same s ↦ absurd (omega (arith, ap W s)) | more s ↦ absurd (omega arith) ];
  })
  kept (placed x live U A) = record {
    plain = λ i m k. elim (tri i (suc v)) [ less s ↦ rw (o i s) (G.kept.plain i s (rw (o i s) at k)) | same s ↦ rw (s, U.here) (x_odd x live A) | more s ↦ absurd (omega arith) ];
    rises = λ i k a m y z. elim (tri k (suc v)) [
      | less s ↦ rw (o i (omega arith), o k s) (G.kept.rises i k a s (rw (o i (omega arith)) at y) (rw (o k s) at z))
      | same s ↦ rw (s, U.here, o i (omega arith)) (x_above x live A i (omega arith) (rw (o i (omega arith)) at y))
      | more s ↦ absurd (omega arith)
    ];
  }
    where
      o : (i : ℕ) → i < suc v → W' i ≡ W i
      o i m = U.other i (λ s. omega arith)

  -- it is numbered, if it may come next
  next : Placed R W W' (suc v) c last c' last' → (0 < W (suc v) → Chosen R W n N (suc v) q r (suc v)) → Merging R W' n N c' last' (suc v + 1) q r
  next P H = record {
    fronts = record { p_low = omega arith; p_high = omega arith; low = G.fronts.low; high = G.fronts.high };
    going = placed_going R n (N + n + n) c last (Done N n (suc v) q r) X.ordered few W W' (suc v) c' last' (Done N n (suc v + 1) q r) G.going (omega arith) (omega arith) P
        (table_adds N n (suc v) q r l)
        (λ k. ready R W n N c last (suc v) q r X G few (suc v) (omega arith) (omega arith) (H k)) (λ k. least R W n N c last (suc v) q r X G few (suc v) (omega arith) (omega arith) (H k));
    kept = kept P;
    count = omega (arith, G.count, placed_count P);
  }

-- the same of a node by its own number
pub step_table : (R W W' : Words) (n N c last p q r c' last' : ℕ) → TwiceCut R n N → Merging R W n N c last p q r → c < 268435454 → p ≤ N
    → Placed R W W' p c last c' last' → (0 < W p → Chosen R W n N p q r p) → Merging R W' n N c' last' (p + 1) q r
step_table R W W' n N c last zero q r c' last' X G few l P H = absurd (omega (arith, G.fronts.p_low))
step_table R W W' n N c last (suc v) q r c' last' X G few l P H = next R W W' n N c last v q r c' last' X G few l P H
