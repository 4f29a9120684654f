-- Nodes numbered height by height become edges that mean what they meant. Assumes nothing.
use Prim.Native.Nat.{ℕ, zero, suc, ◌+◌, ◌*◌, ◌/◌, ◌%◌, ◌≤◌, ◌<◌}
use mathlib.Core.Path.{◌≡◌, sym, ap, ◌∙◌}
use mathlib.Core.Bool.{Bool, true, false, cond}
use native.Mathlib.Omega.{arith}
use Rattle.diagram.specs.Format.{Words}
use Rattle.diagram.specs.Meaning.{bit, flip, under}
use Rattle.diagram.proofs.Paths.{under_always, under_never}
use Rattle.diagram.proofs.Edges.{turn_under}
use Rattle.numbering.specs.Numbered.{Good, dropped, made}
use Rattle.numbering.proofs.Images.{node_turned}
use Rattle.numbering.proofs.Means.{cond_same}
use Rattle.reducing.specs.Levels.{Loose, Means, through, Levelled}
use Rattle.reducing.proofs.Heights.{upward}
use Rattle.reducing.proofs.Records.{through_side, made_height, made_side, levelled_reduced}

-- an edge to the sink permits all or nothing, by its flag
under_sink : (w : Words) (e x : ℕ) → e < 2 → under w e x ≡ flip e true
unfolding flip
under_sink w zero x l = under_always w x
under_sink w (suc zero) x l = under_never w x
under_sink w (suc (suc e)) x l = absurd (omega arith)

module _ (g : ℕ → ℕ) (E : Bool → ℕ → ℕ) (r : ℕ → ℕ) (L : Words) (n M c h : ℕ) (D : Loose g E n M) (S : Levelled g E r L M c h) (low : h ≤ n) where
  -- a node above height 0 becomes an edge that permits what the edge taken becomes
  result_step : (i : ℕ) → i < M → 0 < g i → g i ≤ h → (x : ℕ) → under L (r i) x ≡ under L (through r (E (bit (g i) x) i)) x
  result_step i m t q x = go (S.good i m t q) ∙ ap (λ (a : ℕ). under L a x) (through_side r E i (bit (g i) x))
    where
      p : ℕ
      p = through r (E true i)

      e : ℕ
      e = through r (E false i)

      go : Good (g i) p e (suc (r i)) L c → under L (r i) x ≡ under L (cond (bit (g i) x) p e) x
      go (dropped a y) = let z : r i ≡ p = omega arith in ap (λ (a : ℕ). under L a x) (z ∙ cond_same (bit (g i) x) p e a)
      go (made k l a y f) =
          let z : r i ≡ 2 * suc k + p % 2 = omega arith in
          ap (λ (a : ℕ). under L a x) z
          ∙ node_turned L n c (levelled_reduced g E r L n M c h D S low).ordered (g i) p e k l (made_height g E r L n M c h D S k i m t q f) (made_side g E r L n M c h D S k i m t q f) x

  -- F is what the nodes mean, where s has the flags of those of height 0
  module _ (s : ℕ → ℕ) (F : ℕ → ℕ → Bool) (means : Means g E s F M) (kept : (i : ℕ) → i < M → g i ≡ 0 → s i ≡ r i) where
    -- at height 0 the flag is the meaning
    sink_means : (i : ℕ) → i < M → g i ≡ 0 → (x : ℕ) → under L (r i) x ≡ F i x
    sink_means i m e x = under_sink L (r i) x (S.sinks i m e) ∙ ap (λ (f : ℕ). flip f true) (sym (kept i m e)) ∙ sym (means.sink i m e x)

    -- every numbered node becomes an edge that means the same
    pub levelled_means : (i : ℕ) → i < M → g i ≤ h → (x : ℕ) → under L (r i) x ≡ F i x
    unfolding through
    levelled_means = upward g E n M D (λ i. g i ≤ h → (x : ℕ) → under L (r i) x ≡ F i x) (λ i m e q. sink_means i m e) λ i m t f q x.
        let e = E (bit (g i) x) i in
        result_step i m t q x ∙ turn_under L (e % 2) (r (e / 2)) x
        ∙ ap (flip (e % 2)) (f (bit (g i) x) (omega (arith, D.lower (bit (g i) x) i m t)) x)
        ∙ sym (means.step i m t x)
