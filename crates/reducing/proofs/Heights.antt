-- Induction over the heights of a diagram whose nodes stand in any order. Assumes nothing.
use Prim.Native.Nat.{ℕ, zero, suc, ◌+◌, ◌/◌, ◌≤◌, ◌<◌}
use mathlib.Core.Path.{◌≡◌, sym, ap, subst}
use mathlib.Core.Bool.{Bool}
use native.Mathlib.Nat.{le_refl}
use native.Mathlib.Omega.{arith}
use Rattle.words.proofs.Cases.{less, same, more, tri}
use Rattle.reducing.specs.Levels.{Loose, Named}

module _ (g : ℕ → ℕ) (E : Bool → ℕ → ℕ) (n M : ℕ) (D : Loose g E n M) (Q : ℕ → Type 0) where
  -- what holds at height 0, and of a node where it holds of the nodes of its edges, holds of all nodes
  pub upward : ((i : ℕ) → i < M → g i ≡ 0 → Q i) → ((i : ℕ) → i < M → 0 < g i → ((b : Bool) → Q (E b i / 2)) → Q i) → (i : ℕ) → i < M → Q i
  upward base step i = go (g i) i (le_refl (g i))
    where
      go : (d i : ℕ) → g i ≤ d → i < M → Q i
      go zero i l m = base i m (omega arith)
      go (suc d) i l m = elim (tri 0 (g i)) [
        | less t ↦ step i m t (λ b. go d (E b i / 2) (omega (arith, D.lower b i m t)) (D.inside b i m t))
        | same t ↦ base i m (sym t)
        | more t ↦ absurd (omega arith)
      ]

  -- what holds of the top node, and with a node of the nodes of its edges, holds of all nodes above height 0
  pub downward : (top : ℕ) → Named g E M top → Q top → ((b : Bool) (j : ℕ) → j < M → 0 < g j → Q j → Q (E b j / 2)) → (i : ℕ) → i < M → 0 < g i → Q i
  downward top named base step i = go (suc n) i (omega arith)
    where
      -- a node that is not the top
      other : (i : ℕ) → i < M → 0 < g i → ((j : ℕ) → g i < g j → j < M → Q j) → (i ≡ top → ⊥) → Q i
      other i m t up o =
          let p = named i m t o in
          subst Q p.4 (step p.1 p.0 p.2 p.3 (up p.0 (omega (arith, D.lower p.1 p.0 p.2 p.3, ap g p.4)) p.2))

      go : (d i : ℕ) → n < g i + d → i < M → 0 < g i → Q i
      go zero i l m t = absurd (omega (arith, D.low i m))
      go (suc d) i l m t =
          let up : (j : ℕ) → g i < g j → j < M → Q j = λ j q k. go d j (omega arith) k (omega arith) in
          elim (tri i top) [ less q ↦ other i m t up (λ e. omega arith) | same q ↦ subst Q (sym q) base | more q ↦ other i m t up (λ e. omega arith) ]
