-- One step of marking. For inner contracts only. Assumes nothing.
use Rattle.std.specs.Prelude.{ℕ, ◌/◌, ◌≤◌, ◌<◌, ◌≡◌, ◌⊎◌, List}
use Rattle.words.specs.Words.{word_at}
use Rattle.diagram.specs.Format.{Words, then_edge, else_edge}

-- W' has the marks of W, and nodes a and b marked
pub record Spread (W W' : Words) (a b : ℕ) : Type 0 where
  pub keeps : (u : ℕ) → 0 < W u → 0 < W' u
  pub only : (u : ℕ) → 0 < W' u → (0 < W u) ⊎ ((u ≡ a) ⊎ (u ≡ b))
  pub bits : (u : ℕ) → W u ≤ 1 → W' u ≤ 1
  pub first : 0 < W' a
  pub second : 0 < W' b

-- the nodes that node v leads to are marked, if v is
pub data MarkedBelow (R : Words) (map map' : List ℕ) (v : ℕ) : Type 0 where
  left_out : word_at map v ≡ 0 → map' ≡ map → MarkedBelow R map map' v
  passed_on : 0 < word_at map v → Spread (word_at map) (word_at map') (then_edge R v / 2) (else_edge R v / 2) → MarkedBelow R map map' v
