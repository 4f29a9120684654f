-- A numbered diagram is proper: the new root leads to the last record, and every other record is named. Assumes nothing.
use Prim.Native.Nat.{ℕ, zero, suc, ◌+◌, ◌-◌, ◌/◌, ◌≤◌, ◌<◌}
use mathlib.Core.Path.{◌≡◌, refl, sym, ap, subst, ◌∙◌}
use mathlib.Core.Logic.{◌⊎◌, inl, inr}
use mathlib.Core.Bool.{Bool, true, false}
use native.Mathlib.Omega.{arith}
use Rattle.diagram.specs.Format.{Words, height, then_edge, else_edge}
use Rattle.diagram.specs.Ordered.{Ordered, Reduced, Proper}
use Rattle.diagram.proofs.Paths.{side, side_node}
use Rattle.numbering.specs.Renewal.{image}
use Rattle.numbering.specs.Numbered.{Good, dropped, made, Numbered, Closed, Wanted}
use Rattle.numbering.proofs.Images.{image_node}
use Rattle.numbering.proofs.Renumber.{image_inside, made_node, renumber_reduced}

-- an edge of node k leads to node v: it does so by a side
by_side : (w : Words) (k v : ℕ) → (then_edge w k / 2 ≡ v) ⊎ (else_edge w k / 2 ≡ v) → (b : Bool) × (side w b k / 2 ≡ v)
by_side w k v (inl e) = (true, e)
by_side w k v (inr e) = (false, e)

pub of_side : (w : Words) (k v : ℕ) (b : Bool) → side w b k / 2 ≡ v → (then_edge w k / 2 ≡ v) ⊎ (else_edge w k / 2 ≡ v)
of_side w k v true e = inl e
of_side w k v false e = inr e

-- node k is node t, or named by a record
abbrev pub NamedOr : Words → ℕ → ℕ → ℕ → Type 0
NamedOr w N t k = (k ≡ t) ⊎ ((j : ℕ) × (j < N) × ((then_edge w (suc j) / 2 ≡ k) ⊎ (else_edge w (suc j) / 2 ≡ k)))

-- a reduced diagram all of whose nodes are t or named
module _ (w : Words) (n N t : ℕ) (D : Reduced w n N) (inside : t ≤ N) (named : (k : ℕ) → k < N → NamedOr w N t (suc k)) where
  -- no record names the last one, so that is t
  pub named_last : t ≡ N
  named_last = go N refl
    where
      go : (a : ℕ) → N ≡ a → t ≡ N
      go zero e = omega arith
      go (suc a) e = elim (named a (omega arith)) [
        | inl p ↦ omega arith
        | inr p ↦ let s = by_side w (suc p.0) (suc a) p.2 in let h = p.1 in
            absurd (omega (arith, s.1, side_node w n N D.ordered s.0 p.0 p.1))
      ]

  -- so every other record is named
  pub named_proper : Proper w n N
  named_proper = record {
    reduced = D;
    named = λ k l. elim (named k (omega arith)) [ inl p ↦ absurd (omega (arith, named_last)) | inr p ↦ p ];
  }

module _ (R W L : Words) (n M c : ℕ) (Done : ℕ → Type 0) (D : Ordered R n M) (C : Closed R W M) (S : Numbered R W L M c Done) (few : c < 268435455) (all : (v : ℕ) → v < M → Done (suc v))
    (r : ℕ) (inside : r / 2 ≤ M) (wanted : Wanted R W M (r / 2)) where
  -- node k is the new root's, or named by a record
  abbrev NamedNow : ℕ → Type 0
  NamedNow k = NamedOr L c (image W r / 2) k

  -- a node's image is, where the images of greater nodes are
  module _ (v : ℕ) (m : v < M) (k : 0 < W (suc v)) (greater : (j : ℕ) → v < j → j < M → 0 < W (suc j) → NamedNow ((W (suc j) - 1) / 2)) where
    by : (j : ℕ) (b : Bool) → j < M → 0 < W (suc j) → side R b (suc j) / 2 ≡ suc v → NamedNow ((W (suc v) - 1) / 2)
    by j b l o e = go (S.good j l o (all j l))
      where
        child : image W (side R b (suc j)) / 2 ≡ (W (suc v) - 1) / 2
        child = image_node W (side R b (suc j)) ∙ ap (λ (u : ℕ). (W u - 1) / 2) e

        either : (d : Bool) → image W (then_edge R (suc j)) ≡ image W (else_edge R (suc j)) → image W (then_edge R (suc j)) ≡ image W (side R d (suc j))
        either true q = refl
        either false q = q

        go : Good (height R (suc j)) (image W (then_edge R (suc j))) (image W (else_edge R (suc j))) (W (suc j)) L c → NamedNow ((W (suc v) - 1) / 2)
        go (dropped p y) =
            let z : (W (suc j) - 1) / 2 ≡ (W (suc v) - 1) / 2 = omega (arith, child, either b p) in
            subst (λ (u : ℕ). NamedNow u) z (greater j (omega (arith, side_node R n M D b j l)) l o)
        go (made i a p y g) = inr (i, a, of_side L (suc i) ((W (suc v) - 1) / 2) b (made_node R W L n M c Done D C S few i j l g b ∙ child))

    next_named : NamedNow ((W (suc v) - 1) / 2)
    next_named = elim (wanted v m k) [
      | inl e ↦ inl (ap (λ (u : ℕ). (W u - 1) / 2) e ∙ sym (image_node W r))
      | inr q ↦ let s = by_side R (suc q.0) (suc v) q.3 in by q.0 s.0 q.1 q.2 s.1
    ]

  -- so they all are, from the greatest down
  image_named : (d v : ℕ) → M ≤ v + d → v < M → 0 < W (suc v) → NamedNow ((W (suc v) - 1) / 2)
  image_named zero v l m k = absurd (omega arith)
  image_named (suc d) v l m k = next_named v m k (λ j p q i. image_named d j (omega arith) q i)

  record_named : (i : ℕ) → i < c → NamedNow (suc i)
  record_named i l =
      let s = S.source i l in
      let e : (W (suc s.node) - 1) / 2 ≡ suc i = omega (arith, s.number) in
      subst (λ (u : ℕ). NamedNow u) e (image_named M s.node (omega arith) s.inside s.live)

  -- so the new root leads to the last record
  pub renumber_root : image W r / 2 ≡ c
  renumber_root = named_last L n c (image W r / 2) (renumber_reduced R W L n M c Done D C S few all) (image_inside R W L n M c Done D C S few r inside) record_named

  -- ... and the new records are a proper diagram
  pub renumber_proper : Proper L n c
  renumber_proper = named_proper L n c (image W r / 2) (renumber_reduced R W L n M c Done D C S few all) (image_inside R W L n M c Done D C S few r inside) record_named
