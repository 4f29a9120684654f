-- A numbered diagram means what it meant. Assumes nothing.
use Prim.Native.Nat.{ℕ, zero, suc, ◌+◌, ◌-◌, ◌*◌, ◌/◌, ◌%◌, ◌≤◌, ◌<◌}
use mathlib.Core.Path.{◌≡◌, refl, sym, ap, ◌∙◌}
use mathlib.Core.Bool.{Bool, true, false, cond}
use native.Mathlib.Nat.{le_refl}
use native.Mathlib.Omega.{arith}
use Rattle.diagram.specs.Format.{Words, height, then_edge, else_edge}
use Rattle.diagram.specs.Meaning.{bit, branch, flip, holds, plain, under}
use Rattle.diagram.specs.Ordered.{Ordered}
use Rattle.diagram.proofs.Paths.{branch_node, plain_step}
use Rattle.diagram.proofs.Edges.{turn_under}
use Rattle.numbering.specs.Renewal.{image}
use Rattle.numbering.specs.Numbered.{Good, dropped, made, Numbered, Closed}
use Rattle.numbering.proofs.Images.{image_side, node_turned}
use Rattle.numbering.proofs.Renumber.{closed_side, made_height, made_side, renumber_reduced}

-- one edge for both sides
pub cond_same : (b : Bool) (t e : ℕ) → t ≡ e → t ≡ cond b t e
cond_same true t e q = refl
cond_same false t e q = q

module _ (R W L : Words) (n M c : ℕ) (Done : ℕ → Type 0) (D : Ordered R n M) (C : Closed R W M) (S : Numbered R W L M c Done) (few : c < 268435455) (all : (v : ℕ) → v < M → Done (suc v)) where
  -- what stands in the map for v means what v means
  image_plain : (d v x : ℕ) → v ≤ d → v ≤ M → 0 < W v → under L (W v - 1) x ≡ plain R v x
  unfolding under plain holds flip image branch height
  image_plain zero zero x l m k = let e : W 0 - 1 ≡ 0 = omega (arith, S.sink) in rw e
  image_plain (suc d) zero x l m k = let e : W 0 - 1 ≡ 0 = omega (arith, S.sink) in rw e
  image_plain zero (suc v) x l m k = absurd (omega arith)
  image_plain (suc d) (suc v) x l m k =
      let s = branch_node R n M D v x m in
      go (S.good v m k (all v m)) ∙ ap (λ (a : ℕ). under L a x) (image_side R W (suc v) up) ∙ turn_under L (b % 2) (W (b / 2) - 1) x
      ∙ ap (flip (b % 2)) (image_plain d (b / 2) x (omega arith) (omega arith) (closed_side R W M C up v m k))
      ∙ sym (plain_step R n M D v x m)
    where
      up : Bool
      up = bit (height R (suc v)) x

      b : ℕ
      b = branch R (suc v) x

      t : ℕ
      t = image W (then_edge R (suc v))

      e : ℕ
      e = image W (else_edge R (suc v))

      go : Good (height R (suc v)) t e (W (suc v)) L c → under L (W (suc v) - 1) x ≡ under L (cond up t e) x
      go (dropped q y) = let z : W (suc v) - 1 ≡ t = omega arith in ap (λ (a : ℕ). under L a x) (z ∙ cond_same up t e q)
      go (made i l q y f) =
          let z : W (suc v) - 1 ≡ 2 * suc i + t % 2 = omega arith in
          ap (λ (a : ℕ). under L a x) z
          ∙ node_turned L n c (renumber_reduced R W L n M c Done D C S few all).ordered (height R (suc v)) t e i l
          (made_height R W L n M c Done D C S few i v m f) (made_side R W L n M c Done D C S few i v m f) x

  -- an edge means what it meant
  pub renumber_under : (e x : ℕ) → e / 2 ≤ M → 0 < W (e / 2) → under L (image W e) x ≡ under R e x
  unfolding image
  renumber_under e x l k =
      turn_under L (e % 2) (W (e / 2) - 1) x ∙ unfold under in ap (flip (e % 2)) (image_plain (e / 2) (e / 2) x (le_refl (e / 2)) l k)
