-- What the functions on a list know of it: for inner contracts only. Assumes nothing.
use Rattle.std.specs.Prelude.{ℕ, ◌≤◌, ◌<◌}

-- m ranks that never fall
abbrev pub Rising : (ℕ → ℕ) → ℕ → Type 0
Rising ranks m = (i j : ℕ) → i ≤ j → j < m → ranks i ≤ ranks j

-- of m ranks, the first `fine` are below c and the others are not
pub record Parted (ranks : ℕ → ℕ) (m c fine : ℕ) : Type 0 where
  pub some : fine ≤ m
  pub below : (i : ℕ) → i < fine → ranks i < c
  pub above : (i : ℕ) → fine ≤ i → i < m → c ≤ ranks i
