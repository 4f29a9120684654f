-- In a reduced diagram (ROBDD) nodes that mean the same are one node, and edges that mean the same are one edge. Assumes nothing.
use Prim.Native.Nat.{ℕ, zero, suc, ◌-◌, ◌/◌, ◌%◌, ◌^◌, ◌≤◌, ◌<◌}
use mathlib.Core.Path.{◌≡◌, refl, sym, ap, ◌∙◌}
use mathlib.Core.Bool.{Bool, true, false, not, true≢false, not-not}
use native.Mathlib.Nat.{le_antisymm, le_refl}
use native.Mathlib.Omega.{arith}
use Rattle.diagram.specs.Format.{Words, height, then_edge, else_edge}
use Rattle.diagram.specs.Meaning.{flip, plain, under}
use Rattle.diagram.specs.Ordered.{Reduced}
use Rattle.diagram.proofs.Bits.{with_bit, with_mod}
use Rattle.diagram.proofs.Fields.{fields_inj}
use Rattle.diagram.proofs.Ascending.{record_inj}
use Rattle.diagram.proofs.Paths.{side, side_node}
use Rattle.diagram.proofs.Local.{plain_mod, plain_with, plain_ones}

-- a record is its height and its edges
pub record_fields : (w : Words) (j : ℕ) (w' : Words) (k : ℕ) → height w (suc j) ≡ height w' (suc k) → ((b : Bool) → side w b (suc j) ≡ side w' b (suc k))
    → w (suc j) ≡ w' (suc k)
unfolding height then_edge else_edge
record_fields w j w' k h e = fields_inj (w (suc j)) (w' (suc k)) h (e true) (e false)

-- two Boolean functions are the same
abbrev pub ◌≈◌ : (ℕ → Bool) → (ℕ → Bool) → Type 0

infix 50 ◌≈◌
P ≈ Q = (x : ℕ) → P x ≡ Q x

-- two flags that turn `true` alike are equal
flip_true : (f g : ℕ) → f < 2 → g < 2 → flip f true ≡ flip g true → f ≡ g
unfolding flip
flip_true zero zero a b e = refl
flip_true zero (suc g) a b e = absurd (true≢false e)
flip_true (suc f) zero a b e = absurd (true≢false (sym e))
flip_true (suc f) (suc g) a b e = omega arith

flip_inj : (f : ℕ) (a b : Bool) → flip f a ≡ flip f b → a ≡ b
unfolding flip
flip_inj zero a b e = e
flip_inj (suc f) a b e = sym (not-not a) ∙ ap not e ∙ not-not b

-- nodes of w up to d that mean the same are one node
abbrev Distinct : Words → ℕ → Type 0
Distinct w d = (a b : ℕ) → a ≤ d → b ≤ d → plain w a ≈ plain w b → a ≡ b

-- two reduced diagrams over the same settings, or one taken twice
module _ {w w' : Words} {n N N' : ℕ} (D : Reduced w n N) (D' : Reduced w' n N') where
  -- edges that mean the same have one flag: then-edges are plain, so the setup with every setting on shows it
  pub same_flag : (e e' : ℕ) → e / 2 ≤ N → e' / 2 ≤ N' → under w e ≈ under w' e' → e % 2 ≡ e' % 2
  unfolding under
  same_flag e e' l l' s =
      flip_true (e % 2) (e' % 2) (omega arith) (omega arith)
      (ap (flip (e % 2)) (sym (plain_ones w n N D (e / 2) l)) ∙ s (2 ^ n - 1) ∙ ap (flip (e' % 2)) (plain_ones w' n N' D' (e' / 2) l'))

  -- ... and lead to nodes that mean the same
  pub same_node : (e e' : ℕ) → e / 2 ≤ N → e' / 2 ≤ N' → under w e ≈ under w' e' → plain w (e / 2) ≈ plain w' (e' / 2)
  unfolding under
  same_node e e' l l' s x =
      flip_inj (e % 2) (plain w (e / 2) x) (plain w' (e' / 2) x)
      (s x ∙ ap (λ f. flip f (plain w' (e' / 2) x)) (sym (same_flag e e' l l' s)))

  -- nodes of one height that mean the same have sides that mean the same
  pub same_side : (c : Bool) (j k : ℕ) → j < N → k < N' → height w (suc j) ≡ height w' (suc k) → plain w (suc j) ≈ plain w' (suc k) → under w (side w c (suc j)) ≈ under w' (side w' c (suc k))
  same_side c j k l l' h s x =
      sym (plain_with w n N D.ordered c j x l) ∙ s (with_bit c (height w (suc j)) x)
      ∙ ap (λ g. plain w' (suc k) (with_bit c g x)) h ∙ plain_with w' n N' D'.ordered c k x l'

  -- under a node that means the same as a lower one both edges mean that one: its own setting does not matter
  free_side : (c : Bool) (k b : ℕ) → k < N → b ≤ N' → height w' b < height w (suc k) → plain w (suc k) ≈ plain w' b → (x : ℕ) → under w (side w c (suc k)) x ≡ plain w' b (x % 2 ^ (height w (suc k) - 1))
  free_side c k b l l' q s x =
      let h = height w (suc k) in
      sym (plain_with w n N D.ordered c k x l) ∙ s (with_bit c h x)
      ∙ sym (plain_mod w' n N' D'.ordered b (h - 1) (with_bit c h x) l' (omega arith)) ∙ ap (plain w' b) (with_mod c h x)

module _ {w : Words} {n N : ℕ} (D : Reduced w n N) where
  -- where nodes are distinct, so are the edges to them
  edges_distinct : (d : ℕ) → d ≤ N → Distinct w d → (e e' : ℕ) → e / 2 ≤ d → e' / 2 ≤ d → under w e ≈ under w e' → e ≡ e'
  edges_distinct d l u e e' p q s =
      omega (arith, u (e / 2) (e' / 2) p q (same_node D D e e' (omega arith) (omega arith) s), same_flag D D e e' (omega arith) (omega arith) s)

  -- a node is not taller than one that means the same: its two edges would mean the same, and be the same, against rule 8
  not_taller_to : {w' : Words} {N' : ℕ} → Reduced w' n N' → (d k b : ℕ) → d ≤ N → Distinct w d → k ≤ N → k ≤ suc d → b ≤ N' → plain w k ≈ plain w' b → height w k ≤ height w' b
  unfolding height
  not_taller_to D' d zero b i u l m l' s = omega arith
  not_taller_to {w'} D' d (suc k) b i u l m l' s = omega (arith, taller)
    where
      taller : height w' b < height w (suc k) → ⊥
      taller q =
          let p = side_node w n N D.ordered true k l in
          let r = side_node w n N D.ordered false k l in
          D.differ k l (edges_distinct d i u (then_edge w (suc k)) (else_edge w (suc k)) (omega arith) (omega arith)
          (λ x. free_side D D' true k b l l' q s x ∙ sym (free_side D D' false k b l l' q s x)))

  -- nodes that mean the same are one node: they have one height, and edges that mean the same, so one record, and that is there once
  distinct : (d : ℕ) → d ≤ N → Distinct w d
  unfolding height
  distinct zero l a b p q s = omega arith
  distinct (suc d) l a b p q s =
      let u = distinct d (omega arith) in
      go a b p q u (le_antisymm (not_taller_to D d a b (omega arith) u (omega arith) p (omega arith) s) (not_taller_to D d b a (omega arith) u (omega arith) q (omega arith) (λ x. sym (s x)))) s
    where
      go : (a b : ℕ) → a ≤ suc d → b ≤ suc d → Distinct w d → height w a ≡ height w b → plain w a ≈ plain w b → a ≡ b
      go zero zero p q u h s = refl
      go (suc a) zero p q u h s = absurd (omega (arith, D.ordered.tall a (omega arith)))
      go zero (suc b) p q u h s = absurd (omega (arith, D.ordered.tall b (omega arith)))
      go (suc a) (suc b) p q u h s =
          let i : a < N = omega arith in
          let j : b < N = omega arith in
          ap suc (record_inj w n N D a b i j (record_fields w a w b h λ c.
          let y = side_node w n N D.ordered c a i in
          let z = side_node w n N D.ordered c b j in
          edges_distinct d (omega arith) u (side w c (suc a)) (side w c (suc b)) (omega arith) (omega arith) (same_side D D c a b i j h s)))

  -- so all nodes are distinct, and all edges
  pub node_unique : (a b : ℕ) → a ≤ N → b ≤ N → plain w a ≈ plain w b → a ≡ b
  node_unique = distinct N (le_refl N)

  pub unique : (e e' : ℕ) → e / 2 ≤ N → e' / 2 ≤ N → under w e ≈ under w e' → e ≡ e'
  unique = edges_distinct N (le_refl N) node_unique

  -- and no node is taller than one of another diagram that means the same
  pub not_taller : {w' : Words} {N' : ℕ} → Reduced w' n N' → (k b : ℕ) → k ≤ N → b ≤ N' → plain w k ≈ plain w' b → height w k ≤ height w' b
  not_taller D' k b l = not_taller_to D' N k b (le_refl N) node_unique l (omega arith)
