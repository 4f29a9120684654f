-- The path of a bound down a diagram, and the edges and records of a cut along it. Assumes nothing.
use Prim.Native.Nat.{ℕ, zero, suc, ◌+◌, ◌-◌, ◌*◌, ◌/◌, ◌≤◌, ◌<◌}
use mathlib.Core.Path.{◌≡◌, refl, sym, ap, ◌∙◌}
use mathlib.Core.Bool.{Bool, true, false, not, cond, beq}
use native.Mathlib.Omega.{arith}
use native.Mathlib.Nat.{sub-zero}
use borrow.Author.Tests.{ne_eqb}
use Rattle.diagram.specs.Format.{Words, height}
use Rattle.diagram.specs.Meaning.{bit}
use Rattle.diagram.specs.Ordered.{Ordered}
use Rattle.diagram.specs.Reading.{cofactor, record_of}
use Rattle.diagram.proofs.Paths.{height_le_settings}
use Rattle.diagram.proofs.Cofactor.{cofactor_low}
use Rattle.cutting.specs.Cut.{follow, cut_edge, cut_other, cut_record}

-- a Boolean choice, by its cases
pub choose : (P : ℕ → Type 0) (b : Bool) {t e : ℕ} → P t → P e → P (cond b t e)
choose P true p q = p
choose P false p q = q

-- one setting further
pub follow_next : (w : Words) (n bound r h : ℕ) → h < n → follow w n bound r (n - h) ≡ cofactor w (suc h) (bit (suc h) bound) (follow w n bound r (n - suc h))
unfolding follow
follow_next w n bound r h l =
    let e : n - h ≡ suc (n - suc h) = omega arith in
    let g : n - (n - suc h) ≡ suc h = omega arith in
    ap (follow w n bound r) e ∙ ap (λ (k : ℕ). cofactor w k (bit k bound) (follow w n bound r (n - suc h))) g

-- the edge at the path's end, and the edge to a cut's own node
pub edge_zero : (w : Words) (B n bound r : ℕ) → cut_edge w B n bound r 0 ≡ follow w n bound r (n - 0)
unfolding cut_edge
edge_zero w B n bound r = ap (follow w n bound r) (sym (sub-zero n))

pub edge_suc : (w : Words) (B n bound r h : ℕ) → cut_edge w B n bound r (suc h) ≡ 2 * (B + suc h)
unfolding cut_edge
edge_suc w B n bound r h = rw (ne_eqb (suc h) 0 (λ q. omega arith))

-- the edge of the cut's node of height h + 1 for one setting: along the bound if the bound has it
abbrev pub cut_side : Words → ℕ → ℕ → ℕ → Bool → ℕ → ℕ → Bool → ℕ
cut_side w B n bound lower r h b = cond (beq b (bit (suc h) bound)) (cut_edge w B n bound r h) (cut_other w n bound lower r (suc h))

-- the node's record has these edges
pub record_sides : (w : Words) (B n bound : ℕ) (lower : Bool) (r h : ℕ) → cut_record w B n bound lower r (suc h) ≡ record_of (suc h) (cut_side w B n bound lower r h true) (cut_side w B n bound lower r h false)
unfolding cut_record
record_sides w B n bound lower r h = let q : suc h - 1 ≡ h = omega arith in rw q (go (bit (suc h) bound) (cut_edge w B n bound r h) (cut_other w n bound lower r (suc h)))
  where
    go : (b : Bool) (x y : ℕ) → cond b (record_of (suc h) x y) (record_of (suc h) y x) ≡ record_of (suc h) (cond (beq true b) x y) (cond (beq false b) x y)
    go true x y = refl
    go false x y = refl

-- where the edges lead
module _ (w : Words) (n B : ℕ) (D : Ordered w n B) (bound r : ℕ) (inside : r / 2 ≤ B) where
  follow_low : (d : ℕ) → d ≤ n → (follow w n bound r d / 2 ≤ B) × (height w (follow w n bound r d / 2) ≤ n - d)
  unfolding follow
  follow_low zero l = (inside, omega (arith, height_le_settings w n B D (r / 2) inside))
  follow_low (suc d) l =
      let f = follow_low d (omega arith) in
      let a = cofactor_low w n B D (follow w n bound r d) (n - d) f.0 f.1 (omega arith) (bit (n - d) bound) in
      (omega (arith, f.0, a.0), omega (arith, a.1))

  -- the path's edge above height h
  abbrev pub path : ℕ → ℕ
  path h = follow w n bound r (n - h)

  -- it leads to a node, of height h at most
  pub path_inside : (h : ℕ) → path h / 2 ≤ B
  path_inside h = (follow_low (n - h) (omega arith)).0

  pub path_low : (h : ℕ) → h ≤ n → height w (path h / 2) ≤ h
  path_low h l = omega (arith, (follow_low (n - h) (omega arith)).1)

  -- so do its cofactors, to lower ones
  pub half_low : (h : ℕ) → h < n → (b : Bool) → (cofactor w (suc h) b (path (suc h)) / 2 ≤ B) × (height w (cofactor w (suc h) b (path (suc h)) / 2) < suc h)
  half_low h l b =
      let a = cofactor_low w n B D (path (suc h)) (suc h) (path_inside (suc h)) (path_low (suc h) l) (omega arith) b in
      (omega (arith, path_inside (suc h), a.0), a.1)

  -- the cut's edges lead to nodes before, or to nodes of the cut that are lower
  pub edge_inside : (h : ℕ) → cut_edge w B n bound r h / 2 ≤ B + h
  edge_inside zero = omega (arith, path_inside 0, edge_zero w B n bound r)
  edge_inside (suc h) = omega (arith, edge_suc w B n bound r h)

  pub other_inside : (lower : Bool) (h : ℕ) → h < n → cut_other w n bound lower r (suc h) / 2 ≤ B
  unfolding cut_other
  other_inside lower h l = choose (λ a. a / 2 ≤ B) (beq (bit (suc h) bound) lower) (omega arith) (half_low h l (not (bit (suc h) bound))).0

  pub side_inside : (lower : Bool) (h : ℕ) → h < n → (b : Bool) → cut_side w B n bound lower r h b / 2 ≤ B + h
  side_inside lower h l b = choose (λ a. a / 2 ≤ B + h) (beq b (bit (suc h) bound)) (edge_inside h) (omega (arith, other_inside lower h l))
