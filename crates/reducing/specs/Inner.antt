-- How the nodes lie in a sheet of four regions of P places, and what is left there: for inner contracts only. Assumes nothing.
use Rattle.std.specs.Prelude.{ℕ, zero, suc, ◌+◌, ◌*◌, ◌≤◌, ◌<◌, ◌≡◌, Bool, cond, Option, Some, None}
use Rattle.diagram.specs.Format.{Words}
use Rattle.reducing.specs.Levels.{Loose, Levelled}

-- before: the height of node i, and its two edges; a node of height 0 has its flag in place of the first
abbrev pub height_of : (ℕ → ℕ) → ℕ → ℕ → ℕ
height_of W P i = W (2 * P + i)

abbrev pub edge_of : (ℕ → ℕ) → ℕ → Bool → ℕ → ℕ
edge_of W P on i = cond on (W (P + i)) (W (3 * P + i))

-- after: the edge that node i becomes, and the records, of which the first is word 0
abbrev pub result_of : (ℕ → ℕ) → ℕ → ℕ → ℕ
result_of W P i = W (P + i)

unfoldable pub records_of : (ℕ → ℕ) → Words
records_of W zero = 0
records_of W (suc k) = W k

-- the sheet holds a diagram of M nodes
pub record HoldsNodes (W : ℕ → ℕ) (P n M : ℕ) : Type 0 where
  pub few : M ≤ P
  pub loose : Loose (height_of W P) (edge_of W P) n M
  pub flags : (i : ℕ) → i < M → height_of W P i ≡ 0 → W (P + i) < 2

-- the diagram of W is numbered in W' up to height h, with c records; nodes of height 0 keep their flags
pub record Numbers (W W' : ℕ → ℕ) (P M c h : ℕ) : Type 0 where
  pub levelled : Levelled (height_of W P) (edge_of W P) (result_of W' P) (records_of W') M c h
  pub flags_stay : (i : ℕ) → i < M → height_of W P i ≡ 0 → W' (P + i) ≡ W (P + i)

-- by cases: all heights are numbered, with at most 65,535 records; or at some height there are more
abbrev pub Outcome : (ℕ → ℕ) → (ℕ → ℕ) → ℕ → ℕ → ℕ → Option ℕ → Type 0
Outcome W W' P n M (Some c) = (c ≤ 65535) × (c ≤ M) × Numbers W W' P M c n
Outcome W W' P n M None = (c : ℕ) × (h : ℕ) × (65535 < c) × (h ≤ n) × Numbers W W' P M c h
