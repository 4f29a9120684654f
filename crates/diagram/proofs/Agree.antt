-- Words whose records agree: they are ordered and reduced alike, and their nodes mean the same. Assumes nothing.
use Prim.Native.Nat.{ℕ, zero, suc, ◌/◌, ◌%◌, ◌≤◌, ◌<◌}
use mathlib.Core.Path.{◌≡◌, refl, ap, ◌∙◌}
use mathlib.Core.Logic.{inl, inr}
use mathlib.Core.Bool.{Bool, true, false}
use native.Mathlib.Omega.{arith}
use Rattle.diagram.specs.Format.{Words, high_field, height, then_edge, else_edge}
use Rattle.diagram.specs.Meaning.{branch, flip, holds, plain, under}
use Rattle.diagram.specs.Ordered.{Ordered, Reduced, Proper}
use Rattle.diagram.proofs.Paths.{side, side_node, side_height, branch_node}

-- an ordered diagram, by the sides of its nodes
pub ordered_sides : (w : Words) (n N : ℕ) → ((k : ℕ) → k < N → (0 < height w (suc k)) × (height w (suc k) ≤ n))
    → ((b : Bool) (k : ℕ) → k < N → (side w b (suc k) / 2 ≤ k) × (height w (side w b (suc k) / 2) < height w (suc k))) → Ordered w n N
ordered_sides w n N f g = record {
  tall = λ k l. (f k l).0;
  low = λ k l. (f k l).1;
  then_node = λ k l. (g true k l).0;
  else_node = λ k l. (g false k l).0;
  then_height = λ k l. (g true k l).1;
  else_height = λ k l. (g false k l).1;
}

-- the nodes' heights, and their edges
module _ (w w' : Words) (m : ℕ) (same : (k : ℕ) → k < m → w (suc k) ≡ w' (suc k)) where
  pub agree_height : (k : ℕ) → k ≤ m → height w k ≡ height w' k
  unfolding height
  agree_height zero l = refl
  agree_height (suc k) l = ap high_field (same k l)

  pub agree_side : (b : Bool) (k : ℕ) → k < m → side w b (suc k) ≡ side w' b (suc k)
  unfolding then_edge else_edge
  agree_side b k l = rw (same k l)

-- the nodes' meaning
module _ (w w' : Words) (n N : ℕ) (D : Ordered w n N) (m : ℕ) (inside : m ≤ N) (same : (k : ℕ) → k < m → w (suc k) ≡ w' (suc k)) where
  agree_holds : (d k x : ℕ) → k ≤ m → holds w d k x ≡ holds w' d k x
  unfolding holds branch height then_edge else_edge
  agree_holds zero k x q = refl
  agree_holds (suc d) zero x q = refl
  agree_holds (suc d) (suc k) x q =
      let s = branch_node w n N D k x (omega arith) in
      rw (← (same k q)) (ap (flip (branch w (suc k) x % 2)) (agree_holds d (branch w (suc k) x / 2) x (omega arith)))

  pub agree_plain : (k x : ℕ) → k ≤ m → plain w k x ≡ plain w' k x
  unfolding plain
  agree_plain k x q = agree_holds (height w k) k x q ∙ ap (λ (d : ℕ). holds w' d k x) (agree_height w w' m same k q)

  pub agree_under : (e x : ℕ) → e / 2 ≤ m → under w e x ≡ under w' e x
  unfolding under
  agree_under e x q = ap (flip (e % 2)) (agree_plain (e / 2) x q)

-- the rules
module _ (w w' : Words) (n N : ℕ) (same : (k : ℕ) → k < N → w (suc k) ≡ w' (suc k)) where
  ordered_agree : Ordered w n N → Ordered w' n N
  ordered_agree D = ordered_sides w' n N (λ k l. rw (← (agree_height w w' N same (suc k) l)) (D.tall k l, D.low k l)) sides
    where
      sides : (b : Bool) (k : ℕ) → k < N → (side w' b (suc k) / 2 ≤ k) × (height w' (side w' b (suc k) / 2) < height w' (suc k))
      sides b k l =
          let i = side_node w n N D b k l in
          rw (← (agree_side w w' N same b k l), ← (agree_height w w' N same (suc k) l), ← (agree_height w w' N same (side w b (suc k) / 2) (omega arith)))
          (i, side_height w n N D b k l)

  pub reduced_agree : Reduced w n N → Reduced w' n N
  unfolding then_edge else_edge
  reduced_agree D = record {
    ordered = ordered_agree D.ordered;
    ascends = λ k l. rw (← (same k (omega arith)), ← (same (suc k) l)) (D.ascends k l);
    then_plain = λ k l. rw (← (same k l)) (D.then_plain k l);
    differ = λ k l. rw (← (same k l)) (D.differ k l);
  }

  pub proper_agree : Proper w n N → Proper w' n N
  unfolding then_edge else_edge
  proper_agree D = record {
    reduced = reduced_agree D.reduced;
    named = λ k l. let m = D.named k l in
        (m.0, m.1, elim m.2 [ inl e ↦ inl (rw (← (same m.0 m.1)) e) | inr e ↦ inr (rw (← (same m.0 m.1)) e) ]);
  }
