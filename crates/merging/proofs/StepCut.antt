-- The next node of a cut is numbered, or passed if it is left out. Assumes nothing.
use Prim.Native.Nat.{ℕ, ◌+◌, ◌≤◌, ◌<◌}
use mathlib.Core.Path.{◌≡◌, refl, sym, subst}
use mathlib.Core.Logic.{◌⊎◌, inl, inr}
use mathlib.Core.Bool.{Bool, true, false}
use native.Mathlib.Nat.{le_refl}
use native.Mathlib.Omega.{arith}
use Rattle.words.proofs.Cases.{less, same, more, tri}
use Rattle.diagram.specs.Format.{Words}
use Rattle.numbering.specs.Numbered.{KeepsOrder}
use Rattle.numbering.proofs.Assign.{Adds}
use Rattle.numbering.proofs.Given.{Placed, placed_other, placed_count, placed_going}
use Rattle.cutting.specs.Cut.{TwiceCut}
use Rattle.merging.specs.Inner.{cut_node, front, Done, in_table, in_cut, Fronts, Merging, Moved}
use Rattle.merging.proofs.Moves.{sides, done_moves}
use Rattle.merging.proofs.Lists.{cut_inside}
use Rattle.merging.proofs.Least.{Chosen, ready, least}

module _ (R W W' : Words) (n N c last p q r c' last' q' r' : ℕ) (b : Bool) (X : TwiceCut R n N) (G : Merging R W n N c last p q r)
    (few : c < 268435454) (T : Moved q r q' r' b) (l : front q r b ≤ n) where
  abbrev v : ℕ
  v = cut_node N n b (front q r b)

  F : Fronts N n p q r
  F = G.fronts

  -- it lies behind the table
  beyond : N < v
  beyond = omega (arith, (cut_inside R n N X b (front q r b) l).0, F.low b)

  -- the node is in no other cut
  elsewhere : (d b : Bool) → (d ≡ b → ⊥) → front q r b ≤ n → cut_node N n d 0 < cut_node N n b (front q r b) → cut_node N n b (front q r b) < cut_node N n d (front q r d) → ⊥
  elsewhere true true n m i j = n refl
  elsewhere false false n m i j = n refl
  elsewhere true false n m i j = omega arith
  elsewhere false true n m i j = omega (arith, F.high false, F.low true)

  -- it is the node that is done next
  adds : Adds (Done N n p q r) (Done N n p q' r') v
  adds = record {
    fresh = elim [
      | in_table a ↦ omega (arith, beyond, F.p_high)
      | in_cut d i j ↦ elim (sides d b) [ inl e ↦ omega (arith, subst (λ (s : Bool). v < cut_node N n s (front q r s)) e j) | inr e ↦ elsewhere d b e l i j ]
    ];
    old = λ u. done_moves (le_refl p) T;
    new = in_cut b (omega (arith, F.low b)) (omega (arith, T.here));
    only = λ u. elim [
      | in_table a ↦ inr (in_table a)
      | in_cut d i j ↦ elim (sides d b) [
        | inl e ↦ own u (subst (λ (s : Bool). cut_node N n s 0 < u) e i) (subst (λ (s : Bool). u < cut_node N n s (front q' r' s)) e j)
        | inr e ↦ inr (in_cut d i (omega (arith, T.there d e)))
      ]
    ];
  }
    where
      own : (u : ℕ) → cut_node N n b 0 < u → u < cut_node N n b (front q' r' b) → (u ≡ v) ⊎ Done N n p q r u
      own u i j = elim (tri u v) [ less s ↦ inr (in_cut b i s) | same s ↦ inl s | more s ↦ absurd (omega (arith, T.here)) ]

  -- the fronts stay at nodes, or behind the last one
  fronts : Fronts N n p q' r'
  fronts = record {
    p_low = F.p_low;
    p_high = F.p_high;
    low = λ d. elim (sides d b) [ inl e ↦ subst (λ (s : Bool). 0 < front q' r' s) (sym e) (omega (arith, T.here)) | inr e ↦ omega (arith, T.there d e, F.low d) ];
    high = λ d. elim (sides d b) [ inl e ↦ subst (λ (s : Bool). front q' r' s ≤ n + 1) (sym e) (omega (arith, T.here)) | inr e ↦ omega (arith, T.there d e, F.high d) ];
  }

  -- the places of the table's nodes stay
  kept : Placed R W W' v c last c' last' → KeepsOrder W' p
  kept P = record {
    plain = λ i m k. rw (o i m) (G.kept.plain i m (rw (o i m) at k));
    rises = λ i k a m x y. rw (o i (omega arith), o k m) (G.kept.rises i k a m (rw (o i (omega arith)) at x) (rw (o k m) at y));
  }
    where
      o : (i : ℕ) → i < p → W' i ≡ W i
      o i m = placed_other P i (λ s. omega (arith, beyond, F.p_high))

  -- it is numbered, if it may come next
  pub step_cut : Placed R W W' v c last c' last' → (0 < W v → Chosen R W n N p q r v) → Merging R W' n N c' last' p q' r'
  step_cut P H =
      let some : 0 < v = omega (arith, beyond) in
      let inside = (cut_inside R n N X b (front q r b) l).1 in
      record {
        fronts = fronts;
        going = placed_going R n (N + n + n) c last (Done N n p q r) X.ordered few W W' v c' last' (Done N n p q' r') G.going some inside P adds
            (λ k. ready R W n N c last p q r X G few v some inside (H k)) (λ k. least R W n N c last p q r X G few v some inside (H k));
        kept = kept P;
        count = omega (arith, G.count, placed_count P, T.sum);
      }
