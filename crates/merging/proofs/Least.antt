-- The next node to be numbered: its edges lead to nodes that are done, and no record that is left is below its own. Assumes nothing.
use Prim.Native.Nat.{ℕ, suc, ◌+◌, ◌-◌, ◌/◌, ◌≤◌, ◌<◌}
use mathlib.Core.Path.{◌≡◌, ap}
use mathlib.Core.Logic.{inl, inr}
use mathlib.Core.Bool.{Bool}
use native.Mathlib.Omega.{arith}
use Rattle.words.proofs.Cases.{Tri, less, same, more, tri}
use Rattle.diagram.specs.Format.{Words, height}
use Rattle.diagram.proofs.Paths.{side, side_node, side_height, side_lower}
use Rattle.numbering.specs.Renewal.{renew}
use Rattle.cutting.specs.Cut.{TwiceCut}
use Rattle.merging.specs.Inner.{cut_node, front, Done, Fronts, Merging}
use Rattle.merging.proofs.Lists.{Left, left_table, left_cut, place, cut_height}
use Rattle.merging.proofs.Merge.{taller, not_taller, sorted, ordered}

-- node v may come next: the table's next node, if there is one, is kept and has no record below; a cut's next node is not lower, and has none if it is kept
pub record Chosen (R W : Words) (n N p q r v : ℕ) : Type 0 where
  pub by_table : p ≤ N → (0 < W p) × (renew W (R v) ≤ renew W (R p))
  pub by_cut : (b : Bool) → front q r b ≤ n → (height R v ≤ front q r b) × (0 < W (cut_node N n b (front q r b)) → renew W (R v) ≤ renew W (R (cut_node N n b (front q r b))))

module _ (R W : Words) (n N c last p q r : ℕ) (X : TwiceCut R n N) (G : Merging R W n N c last p q r) (few : c < 268435454) where
  abbrev M : ℕ
  M = N + n + n

  F : Fronts N n p q r
  F = G.fronts

  -- a node of a cut that is not before its front is as high
  cut_left : (b : Bool) (a : ℕ) → cut_node N n b (front q r b) ≤ a → a ≤ cut_node N n b n → (front q r b ≤ n) × (front q r b ≤ height R a)
  cut_left b a i j = (omega arith, omega (arith, cut_height R n N X b a (omega (arith, G.fronts.low b)) j))

  -- what is lower than height h is done, where the fronts are not
  lower_done : (h : ℕ) → (p ≤ N → h ≤ height R p) → ((b : Bool) → front q r b ≤ n → h ≤ front q r b) → (a : ℕ) → a ≤ M → height R a < h → Done N n p q r a
  lower_done h i j a l m = elim (place N n p q r a l) [ inl d ↦ d | inr d ↦ absurd (no d) ]
    where
      no : Left N n p q r a → ⊥
      no (left_table s t) = omega (arith, i (omega arith), sorted R W n N c last p q r X G few p a F.p_low s t)
      no (left_cut b s t) = let u = cut_left b a s t in omega (arith, j b u.0, u.1)

  -- so are the nodes to which a node not above it leads
  pub sides_done : (h : ℕ) → (p ≤ N → h ≤ height R p) → ((b : Bool) → front q r b ≤ n → h ≤ front q r b) → (v : ℕ) → 0 < v → v ≤ M → height R v ≤ h → (b : Bool) → Done N n p q r (side R b v / 2)
  sides_done h i j v some inside low b =
      let t = side_lower R n M X.ordered b v some inside in
      lower_done h i j (side R b v / 2) (omega (arith, t.node)) (omega (arith, t.low))

module _ (R W : Words) (n N c last p q r : ℕ) (X : TwiceCut R n N) (G : Merging R W n N c last p q r) (few : c < 268435454)
    (v : ℕ) (some : 0 < v) (inside : v ≤ N + n + n) (H : Chosen R W n N p q r v) where
  -- its edges lead to nodes that are done
  pub ready : (b : Bool) → Done N n p q r (side R b v / 2)
  ready =
      sides_done R W n N c last p q r X G few (height R v)
      (λ l. not_taller R W n N c last p q r X G few v p some G.fronts.p_low inside (omega arith) (H.by_table l).1)
      (λ b l. (H.by_cut b l).0) v some inside (omega arith)

  -- a node of the table that is not higher than its front has edges before it
  before : (i : ℕ) → i < N → p ≤ N → height R (suc i) ≤ height R p → (b : Bool) → side R b (suc i) / 2 < p
  before i l m h b =
      let a = side R b (suc i) / 2 in
      let s = side_height R n N X.table.ordered b i l in
      let o = side_node R n N X.table.ordered b i l in
      elim (tri a p) [
        | less t ↦ t
        | same t ↦ absurd (omega (arith, ap (height R) t))
        | more t ↦ absurd (omega (arith, sorted R W n N c last p q r X G few p a G.fronts.p_low (omega arith) (omega arith)))
      ]

  -- the table's front is the least of the table
  front_least : (a u : ℕ) → p ≡ suc a → a < u → u < N → 0 < W p → 0 < W (suc u) → renew W (R p) < renew W (R (suc u))
  front_least a u e l j w k = elim (tri (height R p) (height R (suc u))) [
    | less s ↦ taller R W n N c last p q r X G few p (suc u) G.fronts.p_low (omega arith) (omega arith) (omega arith) s
    | same s ↦ level (omega arith)
    | more s ↦ level (omega arith)
  ]
    where
      o : a < N
      o = omega arith

      level : height R (suc u) ≤ height R p → renew W (R p) < renew W (R (suc u))
      level s =
          rw e (ordered R W n N c last p q r X G few a u l j (rw e at w) k
          (λ b. omega (arith, side_node R n N X.table.ordered b a o)) (before u j (omega arith) s))

  -- no record of the table that is left is below
  table_least : (u : ℕ) → p ≤ suc u → u < N → 0 < W (suc u) → renew W (R v) ≤ renew W (R (suc u))
  table_least u i j k = go (tri p (suc u)) (H.by_table (omega arith))
    where
      go : Tri p (suc u) → (0 < W p) × (renew W (R v) ≤ renew W (R p)) → renew W (R v) ≤ renew W (R (suc u))
      go (same e) b = rw e at b.1
      go (more l) b = absurd (omega arith)
      go (less l) b = let f = G.fronts.p_low in let e : p ≡ suc (p - 1) = omega arith in omega (arith, b.1, front_least (p - 1) u e (omega arith) j b.0 k)

  -- nor of a cut
  cut_least : (b : Bool) (u : ℕ) → cut_node N n b (front q r b) ≤ suc u → suc u ≤ cut_node N n b n → suc u ≤ N + n + n → 0 < W (suc u) → renew W (R v) ≤ renew W (R (suc u))
  cut_least b u i j l k = elim (tri f (suc u)) [
    | less s ↦ omega (arith, taller R W n N c last p q r X G few v (suc u) some (omega arith) inside l (omega (arith, t.0, cut_height R n N X b (suc u) (omega (arith, G.fronts.low b)) j)))
    | same s ↦ (rw s at t.1) k
    | more s ↦ absurd (omega arith)
  ]
    where
      f : ℕ
      f = cut_node N n b (front q r b)

      t : (height R v ≤ front q r b) × (0 < W f → renew W (R v) ≤ renew W (R f))
      t = H.by_cut b (cut_left R W n N c last p q r X G few b (suc u) i j).0

  -- nor any
  pub least : (u : ℕ) → u < N + n + n → 0 < W (suc u) → (Done N n p q r (suc u) → ⊥) → renew W (R v) ≤ renew W (R (suc u))
  least u l k d = elim (place N n p q r (suc u) l) [ inl a ↦ absurd (d a) | inr a ↦ go a ]
    where
      go : Left N n p q r (suc u) → renew W (R v) ≤ renew W (R (suc u))
      go (left_table i j) = table_least u i j k
      go (left_cut b i j) = cut_least b u i j l k
