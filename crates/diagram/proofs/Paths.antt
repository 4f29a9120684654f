-- One step from a node of an ordered diagram, or of a loose one. Assumes nothing.
use Prim.Native.Nat.{ℕ, zero, suc, ◌/◌, ◌%◌, ◌≤◌, ◌<◌}
use mathlib.Core.Path.{◌≡◌, refl, sym, ap, ◌∙◌}
use mathlib.Core.Bool.{Bool, true, false}
use native.Mathlib.Nat.{le_refl}
use native.Mathlib.Omega.{arith}
use Rattle.diagram.specs.Format.{Words, height}
use Rattle.diagram.specs.Meaning.{bit, branch, flip, holds, plain, under}
use Rattle.diagram.specs.Ordered.{LooseRecords, Ordered}
pub use Rattle.diagram.specs.Reading.{side}

-- edge 0 means always permitted, edge 1 never
pub under_always : (w : Words) (x : ℕ) → under w 0 x ≡ true
unfolding under flip plain holds height
under_always w x = refl

pub under_never : (w : Words) (x : ℕ) → under w 1 x ≡ false
unfolding under flip plain holds height
under_never w x = refl

module _ (w : Words) (n N : ℕ) (D : LooseRecords w n N) where
  -- either edge of a loose diagram leads to a node of smaller height
  pub loose_node : (b : Bool) (k : ℕ) → k < N → side w b (suc k) / 2 ≤ N
  loose_node true k l = D.then_node k l
  loose_node false k l = D.else_node k l

  pub loose_height : (b : Bool) (k : ℕ) → k < N → height w (side w b (suc k) / 2) < height w (suc k)
  loose_height true k l = D.then_height k l
  loose_height false k l = D.else_height k l

  -- as many nodes allowed as the node's height, or more: the same answer
  holds_fuel : (d k x : ℕ) → height w k ≤ d → k ≤ N → holds w d k x ≡ plain w k x
  unfolding plain holds branch
  holds_fuel d k x l m = both d (height w k) k l (le_refl (height w k)) m
    where
      both : (d d' k : ℕ) → height w k ≤ d → height w k ≤ d' → k ≤ N → holds w d k x ≡ holds w d' k x
      both zero zero k p q r = refl
      both zero (suc d') zero p q r = refl
      both (suc d) zero zero p q r = refl
      both (suc d) (suc d') zero p q r = refl
      both zero (suc d') (suc k) p q r = absurd (omega (arith, D.tall k r))
      both (suc d) zero (suc k) p q r = absurd (omega (arith, D.tall k r))
      both (suc d) (suc d') (suc k) p q r =
          let e = branch w (suc k) x in
          let b = bit (height w (suc k)) x in
          let s : height w (e / 2) < height w (suc k) = loose_height b k r in
          ap (flip (e % 2)) (both d d' (e / 2) (omega arith) (omega arith) (loose_node b k r))

  -- one step from a node
  pub loose_step : (k x : ℕ) → k < N → plain w (suc k) x ≡ under w (branch w (suc k) x) x
  unfolding under holds branch
  loose_step k x l = go (height w (suc k)) (holds_fuel (height w (suc k)) (suc k) x (le_refl (height w (suc k))) l) (loose_height (bit (height w (suc k)) x) k l)
    where
      go : (h : ℕ) → holds w h (suc k) x ≡ plain w (suc k) x → height w (side w (bit (height w (suc k)) x) (suc k) / 2) < h → plain w (suc k) x ≡ under w (branch w (suc k) x) x
      go zero q s = absurd (omega arith)
      go (suc h) q s =
          let b = bit (height w (suc k)) x in
          sym q ∙ ap (flip (branch w (suc k) x % 2)) (holds_fuel h (branch w (suc k) x / 2) x (omega arith) (loose_node b k l))

-- an ordered diagram is a loose one
pub ordered_loose : (w : Words) (n N : ℕ) → Ordered w n N → LooseRecords w n N
ordered_loose w n N D = record {
  tall = D.tall;
  low = D.low;
  then_node = λ k l. omega (arith, D.then_node k l);
  else_node = λ k l. omega (arith, D.else_node k l);
  then_height = D.then_height;
  else_height = D.else_height;
}

module _ (w : Words) (n N : ℕ) (D : Ordered w n N) where
  -- either edge leads to a smaller node, of smaller height
  pub side_node : (b : Bool) (k : ℕ) → k < N → side w b (suc k) / 2 ≤ k
  side_node true k l = D.then_node k l
  side_node false k l = D.else_node k l

  pub side_height : (b : Bool) (k : ℕ) → k < N → height w (side w b (suc k) / 2) < height w (suc k)
  side_height true k l = D.then_height k l
  side_height false k l = D.else_height k l

  -- so does the edge taken
  pub branch_node : (k x : ℕ) → k < N → branch w (suc k) x / 2 ≤ k
  unfolding branch
  branch_node k x l = side_node (bit (height w (suc k)) x) k l

  pub branch_height : (k x : ℕ) → k < N → height w (branch w (suc k) x / 2) < height w (suc k)
  unfolding branch
  branch_height k x l = side_height (bit (height w (suc k)) x) k l

  -- one step from a node
  pub plain_step : (k x : ℕ) → k < N → plain w (suc k) x ≡ under w (branch w (suc k) x) x
  plain_step = loose_step w n N (ordered_loose w n N D)

  -- no node is taller than the settings
  pub height_le_settings : (k : ℕ) → k ≤ N → height w k ≤ n
  unfolding height
  height_le_settings zero l = omega arith
  height_le_settings (suc k) l = D.low k l

-- an edge of node k that leads to a smaller node of smaller height
pub record Lower (w : Words) (k e : ℕ) : Type 0 where
  pub node : e / 2 < k
  pub low : height w (e / 2) < height w k

-- nodes from 1 to N, by their own numbers
module _ (w : Words) (n N : ℕ) (D : Ordered w n N) where
  pub tall_node : (k : ℕ) → 0 < k → k ≤ N → 0 < height w k
  tall_node zero p l = absurd (omega arith)
  tall_node (suc k) p l = D.tall k l

  pub side_lower : (b : Bool) (k : ℕ) → 0 < k → k ≤ N → Lower w k (side w b k)
  side_lower b zero p l = absurd (omega arith)
  side_lower b (suc k) p l = record { node = omega (arith, side_node w n N D b k l); low = side_height w n N D b k l }

  -- the edge by which a setup leaves a node
  pub branch_lower : (k x : ℕ) → 0 < k → k ≤ N → Lower w k (branch w k x)
  unfolding branch
  branch_lower k x p l = side_lower (bit (height w k) x) k p l

  pub plain_branch : (k x : ℕ) → 0 < k → k ≤ N → plain w k x ≡ under w (branch w k x) x
  plain_branch zero x p l = absurd (omega arith)
  plain_branch (suc k) x p l = plain_step w n N D k x l
