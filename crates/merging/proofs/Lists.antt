-- Where the nodes of a twice-cut table lie. Assumes nothing.
use Prim.Native.Nat.{ℕ, suc, ◌+◌, ◌≤◌, ◌<◌}
use mathlib.Core.Path.{◌≡◌}
use mathlib.Core.Logic.{◌⊎◌, inl, inr}
use mathlib.Core.Bool.{Bool, true, false}
use native.Mathlib.Omega.{arith}
use Rattle.words.proofs.Cases.{less, same, more, tri}
use Rattle.diagram.specs.Format.{Words, height}
use Rattle.cutting.specs.Cut.{TwiceCut}
use Rattle.merging.specs.Inner.{cut_node, front, Done, in_table, in_cut}

-- the nodes that are not before the fronts
pub data Left (N n p q r v : ℕ) : Type 0 where
  left_table : p ≤ v → v ≤ N → Left N n p q r v
  left_cut : (b : Bool) → cut_node N n b (front q r b) ≤ v → v ≤ cut_node N n b n → Left N n p q r v

-- every node is before the fronts or not
pub place : (N n p q r v : ℕ) → v ≤ N + n + n → Done N n p q r v ⊎ Left N n p q r v
place N n p q r v l = elim (tri v (suc N)) [ less a ↦ table (omega arith) | same a ↦ rest (omega arith) | more a ↦ rest (omega arith) ]
  where
    table : v ≤ N → Done N n p q r v ⊎ Left N n p q r v
    table a = elim (tri v p) [ less b ↦ inl (in_table b) | same b ↦ inr (left_table (omega arith) a) | more b ↦ inr (left_table (omega arith) a) ]

    cut : (b : Bool) → cut_node N n b 0 < v → v ≤ cut_node N n b n → Done N n p q r v ⊎ Left N n p q r v
    cut b a m = elim (tri v (cut_node N n b (front q r b))) [ less d ↦ inl (in_cut b a d) | same d ↦ inr (left_cut b (omega arith) m) | more d ↦ inr (left_cut b (omega arith) m) ]

    rest : N < v → Done N n p q r v ⊎ Left N n p q r v
    rest a = elim (tri v (suc (N + n))) [ less b ↦ cut false (omega arith) (omega arith) | same b ↦ cut true (omega arith) (omega arith) | more b ↦ cut true (omega arith) (omega arith) ]

-- a cut's node of height h
module _ (R : Words) (n N : ℕ) (X : TwiceCut R n N) (b : Bool) where
  -- it lies behind the table, and before the end
  pub cut_inside : (h : ℕ) → h ≤ n → (N + h ≤ cut_node N n b h) × (cut_node N n b h ≤ N + n + n)
  cut_inside h l = go b
    where
      go : (b : Bool) → (N + h ≤ cut_node N n b h) × (cut_node N n b h ≤ N + n + n)
      go true = (omega arith, omega arith)
      go false = (omega arith, omega arith)

  -- its height is its place in the cut
  pub cut_height : (v : ℕ) → cut_node N n b 0 < v → v ≤ cut_node N n b n → cut_node N n b (height R v) ≡ v
  cut_height v l m = go b l m
    where
      go : (b : Bool) → cut_node N n b 0 < v → v ≤ cut_node N n b n → cut_node N n b (height R v) ≡ v
      go true l m = omega (arith, X.second v (omega arith) m)
      go false l m = omega (arith, X.first v (omega arith) m)

  -- a node by its place in the cut has that height
  pub cut_level : (h : ℕ) → 0 < h → h ≤ n → height R (cut_node N n b h) ≡ h
  cut_level h l m = omega (arith, cut_height (cut_node N n b h) (omega arith) (omega arith))
