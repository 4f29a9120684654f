-- Nodes numbered height by height: every record but the last is named, and the last one is the top node's. Assumes nothing.
use Prim.Native.Nat.{ℕ, suc, ◌/◌, ◌<◌}
use mathlib.Core.Path.{◌≡◌, refl, subst, ◌∙◌}
use mathlib.Core.Logic.{inl, inr}
use mathlib.Core.Bool.{Bool, true, false}
use native.Mathlib.Nat.{le_refl}
use native.Mathlib.Omega.{arith}
use Rattle.diagram.specs.Format.{Words}
use Rattle.diagram.specs.Ordered.{Proper}
use Rattle.numbering.specs.Numbered.{Good, dropped, made}
use Rattle.numbering.proofs.Means.{cond_same}
use Rattle.numbering.proofs.Names.{of_side, NamedOr, named_last, named_proper}
use Rattle.reducing.specs.Levels.{Loose, Named, through, Levelled}
use Rattle.reducing.proofs.Heights.{downward}
use Rattle.reducing.proofs.Records.{through_node, through_side, made_node, result_leads, levelled_reduced}

module _ (g : ℕ → ℕ) (E : Bool → ℕ → ℕ) (r : ℕ → ℕ) (L : Words) (n M c : ℕ) (D : Loose g E n M) (S : Levelled g E r L M c n) (top : ℕ) (inside : top < M) (named : Named g E M top) where
  -- record k is the top node's, or named by a record
  abbrev NamedNow : ℕ → Type 0
  NamedNow k = NamedOr L c (r top / 2) k

  -- what the node of an edge of j becomes is, if what j becomes is
  child_named : (b : Bool) (j : ℕ) → j < M → 0 < g j → NamedNow (r j / 2) → NamedNow (r (E b j / 2) / 2)
  child_named b j m t a = go (S.good j m t (D.low j m))
    where
      go : Good (g j) (through r (E true j)) (through r (E false j)) (suc (r j)) L c → NamedNow (r (E b j / 2) / 2)
      go (dropped p y) =
          let e = cond_same b (through r (E true j)) (through r (E false j)) p ∙ through_side r E j b in
          let z : r j / 2 ≡ r (E b j / 2) / 2 = omega (arith, e, through_node r (E b j)) in
          subst (λ (u : ℕ). NamedNow u) z a
      go (made k l p y f) = inr (k, l, of_side L (suc k) (r (E b j / 2) / 2) b (made_node g E r L n M c n D S k j m t (D.low j m) f b))

  -- so every record is, from the top node down
  record_named : (k : ℕ) → k < c → NamedNow (suc k)
  record_named k l =
      let o = S.origin k l in
      let e : r o.node / 2 ≡ suc k = omega (arith, o.number) in
      subst (λ (u : ℕ). NamedNow u) e (downward g E n M D (λ i. NamedNow (r i / 2)) top named (inl refl) child_named o.node o.inside o.tall)

  -- the records are a proper diagram, of which the top node's is the last
  pub levelled_proper : Proper L n c × (r top / 2 ≡ c)
  levelled_proper =
      let R = levelled_reduced g E r L n M c n D S (le_refl n) in
      let l = (result_leads g E r L n M c n D S top inside (D.low top inside)).0 in
      (named_proper L n c (r top / 2) R l record_named, named_last L n c (r top / 2) R l record_named)
