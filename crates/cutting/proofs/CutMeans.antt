-- What the nodes of a cut mean: what is there on one side of the bound. Assumes nothing.
use Prim.Native.Nat.{ℕ, zero, suc, ◌+◌, ◌-◌, ◌*◌, ◌/◌, ◌%◌, ◌^◌, ◌≤◌, ◌<◌}
use mathlib.Core.Path.{◌≡◌, sym, ap, ap₂, ◌∙◌}
use mathlib.Core.Bool.{Bool, true, false, not, cond, ◌&&◌, beq, and-true, and-false}
use native.Mathlib.Omega.{arith}
use native.Mathlib.Nat.{mod-one, sub_self, le_refl}
use Rattle.diagram.specs.Format.{Words}
use Rattle.diagram.specs.Meaning.{bit, branch, flip, plain, under}
use Rattle.diagram.specs.Ordered.{Ordered}
use Rattle.diagram.specs.Reading.{cofactor}
use Rattle.diagram.proofs.Paths.{side, under_never, plain_branch}
use Rattle.diagram.proofs.Cofactor.{cofactor_own}
use Rattle.diagram.proofs.Agree.{agree_under}
use Rattle.cutting.specs.Cut.{follow, cut_edge, cut_other, Cut}
use Rattle.cutting.proofs.Bounds.{on_side, side_settings}
use Rattle.cutting.proofs.Follow.{follow_next, edge_zero, edge_suc, cut_side, path_inside, path_low, half_low}
use Rattle.cutting.proofs.CutOrder.{records_before, cut_height, cut_side_lem, cut_ordered}

-- a plain edge to a node means what the node does
plain_under : (w : Words) (k x : ℕ) → under w (2 * k) x ≡ plain w k x
unfolding under flip
plain_under w k x =
    let f : 2 * k % 2 ≡ 0 = omega arith in
    let g : 2 * k / 2 ≡ k = omega arith in
    rw (f, g)

module _ (w : Words) (n B : ℕ) (D : Ordered w n B) (bound r : ℕ) (inside : r / 2 ≤ B) (lower : Bool) (w' : Words) (C : Cut w n B bound r lower w') (few : B + n < 268435455) (x : ℕ) where
  before : (e : ℕ) → e / 2 ≤ B → under w' e x ≡ under w e x
  before e l = sym (agree_under w w' n B D B (le_refl B) (records_before w n B D bound r inside lower w' C few) e x l)

  -- what is left of the lower h settings
  abbrev left : ℕ → Bool
  left h = under w (follow w n bound r (n - h)) x && on_side lower (bound % 2 ^ h) (x % 2 ^ h)

  step_in : (h : ℕ) → h < n → under w' (cut_edge w B n bound r (suc h)) x ≡ under w' (cut_side w B n bound lower r h (bit (suc h) x)) x
  unfolding branch
  step_in h l =
      ap (λ (e : ℕ). under w' e x) (edge_suc w B n bound r h) ∙ plain_under w' (B + suc h) x
      ∙ plain_branch w' n (B + n) (cut_ordered w n B D bound r inside lower w' C few) (B + suc h) x (omega arith) (omega arith)
      ∙ ap (λ (k : ℕ). under w' (side w' (bit k x) (B + suc h)) x) (cut_height w n B D bound r inside lower w' C few h l)
      ∙ ap (λ (e : ℕ). under w' e x) (cut_side_lem w n B D bound r inside lower w' C few (bit (suc h) x) h l)

  next_means : (h : ℕ) → h < n → under w' (cut_edge w B n bound r h) x ≡ left h → under w' (cut_edge w B n bound r (suc h)) x ≡ left (suc h)
  unfolding cut_other
  next_means h l k =
      step_in h l
      ∙ go lower (bit (suc h) x) (bit (suc h) bound) (k ∙ ap (λ (e : ℕ). under w e x && on_side lower (bound % 2 ^ h) (x % 2 ^ h)) (follow_next w n bound r h l))
      ∙ sym (ap₂ ◌&&◌ (cofactor_own w n B D P (suc h) (path_inside w n B D bound r inside (suc h)) (path_low w n B D bound r inside (suc h) l) (omega arith) x)
      (side_settings lower (suc h) bound x (omega arith) ∙ rw m))
    where
      m : suc h - 1 ≡ h
      m = omega arith

      P : ℕ
      P = follow w n bound r (n - suc h)

      half : Bool → ℕ
      half b = cofactor w (suc h) b P

      same : (b : Bool) → under w' (half b) x ≡ under w (half b) x
      same b = before (half b) (half_low w n B D bound r inside h l b).0

      go : (s a b : Bool) → under w' (cut_edge w B n bound r h) x ≡ (under w (half b) x && on_side lower (bound % 2 ^ h) (x % 2 ^ h))
          → under w' (cond (beq a b) (cut_edge w B n bound r h) (cond (beq b s) 1 (half (not b)))) x
          ≡ (under w (half a) x && cond (beq a b) (on_side lower (bound % 2 ^ h) (x % 2 ^ h)) (beq a s))
      go s true true k = k
      go s false false k = k
      go true true false k = same true ∙ sym (and-true (under w (half true) x))
      go false true false k = under_never w' x ∙ sym (and-false (under w (half true) x))
      go true false true k = under_never w' x ∙ sym (and-false (under w (half false) x))
      go false false true k = same false ∙ sym (and-true (under w (half false) x))

  cut_means : (h : ℕ) → h ≤ n → under w' (cut_edge w B n bound r h) x ≡ left h
  cut_means zero l =
      ap (λ (e : ℕ). under w' e x) (edge_zero w B n bound r) ∙ before (follow w n bound r (n - 0)) (path_inside w n B D bound r inside 0)
      ∙ rw (mod-one bound, mod-one x) (go lower (under w (follow w n bound r (n - 0)) x))
    where
      go : (s u : Bool) → u ≡ (u && on_side s 0 0)
      go true u = sym (and-true u)
      go false u = sym (and-true u)
  cut_means (suc h) l = next_means h l (cut_means h (omega arith))

  -- the whole cut
  pub cut_root : under w' (cut_edge w B n bound r n) x ≡ (under w r x && on_side lower (bound % 2 ^ n) (x % 2 ^ n))
  unfolding follow
  cut_root = cut_means n (le_refl n) ∙ ap (λ (d : ℕ). under w (follow w n bound r d) x && on_side lower (bound % 2 ^ n) (x % 2 ^ n)) (sub_self n)
