-- A diagram with the nodes of a cut is ordered. Assumes nothing.
use Prim.Native.Nat.{ℕ, zero, suc, ◌+◌, ◌-◌, ◌/◌, ◌≤◌, ◌<◌}
use mathlib.Core.Path.{◌≡◌, sym, ap, ◌∙◌, subst}
use mathlib.Core.Bool.{Bool, true, false, not, beq}
use native.Mathlib.Omega.{arith}
use Rattle.words.proofs.Cases.{less, same, more, tri}
use Rattle.diagram.specs.Format.{Words, high_field, middle_field, low_field, height, then_edge, else_edge}
use Rattle.diagram.specs.Meaning.{bit}
use Rattle.diagram.specs.Ordered.{Ordered}
use Rattle.diagram.specs.Reading.{record_of}
use Rattle.diagram.proofs.Fields.{height_node, record_high, record_middle, record_low}
use Rattle.diagram.proofs.Paths.{side, side_node, side_height}
use Rattle.diagram.proofs.Agree.{ordered_sides, agree_height, agree_side}
use Rattle.cutting.specs.Cut.{follow, cut_edge, cut_other, Cut}
use Rattle.cutting.proofs.Follow.{choose, edge_zero, edge_suc, cut_side, record_sides, path_inside, path_low, half_low, other_inside, side_inside}

module _ (w : Words) (n B : ℕ) (D : Ordered w n B) (bound r : ℕ) (inside : r / 2 ≤ B) (lower : Bool) (w' : Words) (C : Cut w n B bound r lower w') (few : B + n < 268435455) where
  -- the nodes before
  pub records_before : (k : ℕ) → k < B → w (suc k) ≡ w' (suc k)
  records_before k l = sym (C.as_before (suc k) l)

  height_before : (k : ℕ) → k ≤ B → height w k ≡ height w' k
  height_before = agree_height w w' B records_before

  -- the edges of a node that the cut adds
  abbrev edge : ℕ → Bool → ℕ
  edge h b = cut_side w B n bound lower r h b

  edge_small : (h : ℕ) → h < n → (b : Bool) → edge h b < 536870912
  edge_small h l b = omega (arith, side_inside w n B D bound r inside lower h l b)

  record_is : (h : ℕ) → h < n → w' (B + suc h) ≡ record_of (suc h) (edge h true) (edge h false)
  record_is h l = C.records (suc h) (omega arith) l ∙ record_sides w B n bound lower r h

  -- a node that the cut adds has the height of its setting
  pub cut_height : (h : ℕ) → h < n → height w' (B + suc h) ≡ suc h
  cut_height h l =
      height_node w' (B + suc h) (omega arith) ∙ ap high_field (record_is h l)
      ∙ record_high (suc h) (edge h true) (edge h false) (edge_small h l true) (edge_small h l false)

  -- ... and these edges
  pub cut_side_lem : (b : Bool) (h : ℕ) → h < n → side w' b (B + suc h) ≡ edge h b
  unfolding then_edge else_edge
  cut_side_lem true h l = ap middle_field (record_is h l) ∙ record_middle (suc h) (edge h true) (edge h false) (edge_small h l true) (edge_small h l false)
  cut_side_lem false h l = ap low_field (record_is h l) ∙ record_low (suc h) (edge h true) (edge h false) (edge_small h l true) (edge_small h l false)

  inner_lower : (h : ℕ) → h < n → height w' (cut_edge w B n bound r h / 2) < suc h
  inner_lower zero l =
      rw (edge_zero w B n bound r, ← (height_before (follow w n bound r (n - 0) / 2) (path_inside w n B D bound r inside 0))) (omega (arith, path_low w n B D bound r inside 0 (omega arith)))
  inner_lower (suc h) l =
      let e : cut_edge w B n bound r (suc h) / 2 ≡ B + suc h = omega (arith, edge_suc w B n bound r h) in
      omega (arith, ap (height w') e, cut_height h (omega arith))

  other_low : (h : ℕ) → h < n → height w (cut_other w n bound lower r (suc h) / 2) < suc h
  unfolding cut_other height
  other_low h l = choose (λ a. height w (a / 2) < suc h) (beq (bit (suc h) bound) lower) (omega arith) (half_low w n B D bound r inside h l (not (bit (suc h) bound))).1

  other_lower : (h : ℕ) → h < n → height w' (cut_other w n bound lower r (suc h) / 2) < suc h
  other_lower h l = rw (← (height_before (cut_other w n bound lower r (suc h) / 2) (other_inside w n B D bound r inside lower h l))) (other_low h l)

  -- what is true of the nodes before, and of those that the cut adds
  each : (P : ℕ → Type 0) → ((k : ℕ) → k < B → P (suc k)) → ((h : ℕ) → h < n → P (B + suc h)) → (k : ℕ) → k < B + n → P (suc k)
  each P f g k l = elim (tri k B) [ less s ↦ f k s | same s ↦ later (omega arith) | more s ↦ later (omega arith) ]
    where
      later : B ≤ k → P (suc k)
      later m = let e : B + suc (k - B) ≡ suc k = omega arith in subst P e (g (k - B) (omega arith))

  -- so all nodes are in order
  pub cut_ordered : Ordered w' n (B + n)
  cut_ordered =
      ordered_sides w' n (B + n)
      (each (λ j. (0 < height w' j) × (height w' j ≤ n)) (λ k l. rw (← (height_before (suc k) l)) (D.tall k l, D.low k l)) (λ h l. rw (cut_height h l) (omega arith, l)))
      (λ b k l. let s = each (λ j. (side w' b j / 2 < j) × (height w' (side w' b j / 2) < height w' j)) (before b) (added b) k l in (omega (arith, s.0), s.1))
    where
      before : (b : Bool) (k : ℕ) → k < B → (side w' b (suc k) / 2 < suc k) × (height w' (side w' b (suc k) / 2) < height w' (suc k))
      before b k l =
          let i = side_node w n B D b k l in
          rw (← (agree_side w w' B records_before b k l), ← (height_before (suc k) l), ← (height_before (side w b (suc k) / 2) (omega arith)))
          (omega arith, side_height w n B D b k l)

      added : (b : Bool) (h : ℕ) → h < n → (side w' b (B + suc h) / 2 < B + suc h) × (height w' (side w' b (B + suc h) / 2) < height w' (B + suc h))
      added b h l =
          rw (cut_side_lem b h l, cut_height h l)
          (omega (arith, side_inside w n B D bound r inside lower h l b), choose (λ a. height w' (a / 2) < suc h) (beq b (bit (suc h) bound)) (inner_lower h l) (other_lower h l))

  -- the heights by the numbers of the nodes
  pub cut_heights : (v : ℕ) → B < v → v ≤ B + n → height w' v ≡ v - B
  cut_heights v l m =
      let e : B + suc (v - B - 1) ≡ v = omega arith in
      ap (height w') (sym e) ∙ cut_height (v - B - 1) (omega arith) ∙ omega arith
