-- Canonicity (Bryant): two proper diagrams over the same settings that permit the same setups are the same. Assumes nothing.
use Prim.Native.Nat.{ℕ, zero, suc, ◌+◌, ◌/◌, ◌%◌, ◌^◌, ◌≤◌, ◌<◌, suc-le-suc}
use mathlib.Core.Path.{◌≡◌, refl, sym, ap, ◌∙◌, subst}
use mathlib.Core.Bool.{Bool, true, false}
use mathlib.Core.Logic.{inl, inr}
use native.Mathlib.Nat.{le_refl, le_antisymm, le_of_suc-le-suc, mod-lt}
use native.Mathlib.Omega.{arith}
use lib.Pow.{pow_pos}
use Rattle.diagram.specs.Format.{Words, height}
use Rattle.diagram.specs.Meaning.{holds, plain, under}
use Rattle.diagram.specs.Ordered.{Reduced, Named, Proper}
use Rattle.diagram.proofs.Members.{distinct_le}
use Rattle.diagram.proofs.Paths.{side, side_node, height_le_settings}
use Rattle.diagram.proofs.Agree.{agree_plain, agree_under}
use Rattle.diagram.proofs.Local.{under_mod}
use Rattle.diagram.proofs.Ascending.{rising}
use Rattle.diagram.proofs.Unique.{◌≈◌, same_flag, same_node, same_side, node_unique, unique, not_taller, record_fields}
use Rattle.words.proofs.Cases.{less, same, more, tri}

-- a node of w', of N' nodes, that means the same as node k of w
pub record Twin (w w' : Words) (N' k : ℕ) : Type 0 where
  pub node : ℕ
  pub inside : node ≤ N'
  pub means : plain w k ≈ plain w' node

-- where all nodes have twins, there are not more of them
pub twins_le : {w w' : Words} {n N N' : ℕ} → Reduced w n N → ((k : ℕ) → k ≤ N → Twin w w' N' k) → N ≤ N'
twins_le {w} {w'} {n} {N} {N'} D t =
    le_of_suc-le-suc (distinct_le (suc N) (suc N') (λ k l. (at k l).node) (λ k l. suc-le-suc (at k l).inside)
    (λ i j l m e. node_unique D i j (le_of_suc-le-suc l) (le_of_suc-le-suc m) (λ x. (at i l).means x ∙ ap (λ (k : ℕ). plain w' k x) e ∙ sym ((at j m).means x))))
  where
    at : (k : ℕ) → k < suc N → Twin w w' N' k
    at k l = t k (le_of_suc-le-suc l)

-- rule 9, by the side of the record that names a node
naming : (w : Words) (N : ℕ) → Named w N → (k : ℕ) → suc k < N → (j : ℕ) × (j < N) × (c : Bool) × (side w c (suc j) / 2 ≡ suc k)
naming w N named k l = let r = named k l in elim r.2 [ inl e ↦ (r.0, r.1, true, e) | inr e ↦ (r.0, r.1, false, e) ]

-- two reduced diagrams over the same settings
module _ {w w' : Words} {n N N' : ℕ} (D : Reduced w n N) (D' : Reduced w' n N') where
  -- nodes that mean the same have one height
  same_height : (k b : ℕ) → k ≤ N → b ≤ N' → plain w k ≈ plain w' b → height w k ≡ height w' b
  same_height k b l m s = le_antisymm (not_taller D D' k b l m s) (not_taller D' D b k m l (λ x. sym (s x)))

  -- the twin of a child is the child of the twin
  child : (c : Bool) (j : ℕ) → j < N → Twin w w' N' (suc j) → Twin w w' N' (side w c (suc j) / 2)
  unfolding height
  child c j l t = go t.node t.inside t.means
    where
      go : (b : ℕ) → b ≤ N' → plain w (suc j) ≈ plain w' b → Twin w w' N' (side w c (suc j) / 2)
      go zero i s = let p = D.ordered.tall j l in absurd (omega (arith, same_height (suc j) 0 l i s))
      go (suc b) i s =
          let p = side_node w n N D.ordered c j l in
          let q = side_node w' n N' D'.ordered c b i in
          record {
            node = side w' c (suc b) / 2;
            inside = omega arith;
            means = same_node D D' (side w c (suc j)) (side w' c (suc b)) (omega arith) (omega arith) (same_side D D' c j b l i (same_height (suc j) (suc b) l i s) s);
          }

  -- rule 9 in the first, and the last nodes mean the same
  module _ (named : Named w N) (top : plain w N ≈ plain w' N') where
    -- every node has a twin: the last one, what a record with a twin names, and the sink
    twin : (d k : ℕ) → N ≤ k + d → k ≤ N → Twin w w' N' k
    unfolding plain holds height
    twin zero k l m = let e : k ≡ N = omega arith in rw e (record { node = N'; inside = le_refl N'; means = top })
    twin (suc d) zero l m = record { node = 0; inside = omega arith; means = λ x. refl }
    twin (suc d) (suc k) l m = elim (tri (suc k) N) [
      | less q ↦
          let r = naming w N named k q in
          let p = side_node w n N D.ordered r.2 r.0 r.1 in
          subst (Twin w w' N') r.3 (child r.2 r.0 r.1 (twin d (suc r.0) (omega (arith, r.3)) r.1))
      | same e ↦ rw e (record { node = N'; inside = le_refl N'; means = top })
      | more q ↦ absurd (omega arith)
    ]

    -- where the first m records agree and w has one more, w' has one more too, and it is not above
    next : (m : ℕ) → m < N → m ≤ N' → ((k : ℕ) → k < m → w (suc k) ≡ w' (suc k)) → (m < N') × (w' (suc m) ≤ w (suc m))
    next m l l' a = let t = twin N (suc m) (omega arith) l in go t.node t.inside t.means
      where
        -- the twin of node m + 1 is none of the first m
        later : (b : ℕ) → plain w (suc m) ≈ plain w' b → b ≤ m → ⊥
        later b s q =
            let e = node_unique D (suc m) b l (omega arith) (λ x. s x ∙ sym (agree_plain w w' n N D.ordered m (omega arith) a b x q)) in
            omega arith

        -- and has the same record, since its edges lead to these
        record_of : (b : ℕ) → b < N' → plain w (suc m) ≈ plain w' (suc b) → w (suc m) ≡ w' (suc b)
        record_of b i s =
            let h = same_height (suc m) (suc b) l i s in
            record_fields w m w' b h λ c.
            let p = side_node w n N D.ordered c m l in
            let q = side_node w' n N' D'.ordered c b i in
            let e = side w c (suc m) in
            unique D' e (side w' c (suc b)) (omega arith) (omega arith) (λ x. sym (agree_under w w' n N D.ordered m (omega arith) a e x p) ∙ same_side D D' c m b l i h s x)

        go : (b : ℕ) → b ≤ N' → plain w (suc m) ≈ plain w' b → (m < N') × (w' (suc m) ≤ w (suc m))
        go zero i s = absurd (later 0 s (omega arith))
        go (suc b) i s =
            let q : m ≤ b = omega (arith, later (suc b) s) in
            (omega arith, rw (record_of b i s) (rising w' n N' D' m b q i))

-- the records agree, and w' has as many
records_agree : {w w' : Words} {n N N' : ℕ} (A : Proper w n N) (B : Proper w' n N') → plain w N ≈ plain w' N' → (m : ℕ) → m ≤ N → (m ≤ N') × ((k : ℕ) → k < m → w (suc k) ≡ w' (suc k))
records_agree A B top zero l = (omega arith, λ k q. absurd (omega arith))
records_agree {w} {w'} A B top (suc m) l =
    let i = records_agree A B top m (omega arith) in
    let a = next A.reduced B.reduced A.named top m l i.0 i.1 in
    let b = next B.reduced A.reduced B.named (λ x. sym (top x)) m a.0 (omega arith) (λ k q. sym (i.1 k q)) in
    let e : w (suc m) ≡ w' (suc m) = omega arith in
    (a.0, λ k q. elim (tri k m) [ less r ↦ i.1 k r | same r ↦ rw r e | more r ↦ absurd (omega arith) ])

-- canonicity: N nodes, the root edge and the records are determined by the setups that are permitted
pub record Same (w w' : Words) (N N' r r' : ℕ) : Type 0 where
  pub count : N ≡ N'
  pub edge : r ≡ r'
  pub records : (k : ℕ) → k < N → w (suc k) ≡ w' (suc k)

pub canonical : {w w' : Words} {n N N' : ℕ} (r r' : ℕ) → Proper w n N → Proper w' n N' → r / 2 ≡ N → r' / 2 ≡ N'
    → ((x : ℕ) → x < 2 ^ n → under w r x ≡ under w' r' x) → Same w w' N N' r r'
canonical {w} {w'} {n} {N} {N'} r r' A B e e' s =
    let a = records_agree A B top N (le_refl N) in
    let b = records_agree B A (λ x. sym (top x)) N' (le_refl N') in
    let f = same_flag A.reduced B.reduced r r' (omega arith) (omega arith) all in
    record { count = omega arith; edge = omega arith; records = a.1 }
  where
    -- a diagram looks at the last n settings only
    last : {v : Words} {M : ℕ} (q : ℕ) → Proper v n M → q / 2 ≡ M → (x : ℕ) → under v q (x % 2 ^ n) ≡ under v q x
    last {v} {M} q C d x = let D = C.reduced.ordered in under_mod v n M D q n x (omega arith) (height_le_settings v n M D (q / 2) (omega arith))

    all : under w r ≈ under w' r'
    all x = sym (last r A e x) ∙ s (x % 2 ^ n) (mod-lt x (pow_pos n)) ∙ last r' B e' x

    top : plain w N ≈ plain w' N'
    top = rw (← e, ← e') (same_node A.reduced B.reduced r r' (omega arith) (omega arith) all)
