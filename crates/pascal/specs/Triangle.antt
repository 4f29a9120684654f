-- Pascal's triangle: rows one after the other, row g of g + 1 entries. Assumes nothing.
use Rattle.std.specs.Prelude.{ℕ, zero, suc, ◌+◌, ◌*◌, ◌/◌, ◌<◌, ◌≡◌, List, length, get_or}

-- entry i of row g
abbrev pub entry : List ℕ → ℕ → ℕ → ℕ
entry table g i = get_or table (g * (g + 1) / 2 + i) 0

-- Pascal's rule, of rows 0 to G - 1: each entry is the sum of the two above it, and 1 at the ends
pub record PascalsRule (table : List ℕ) (G : ℕ) : Type 0 where
  pub entries : length table ≡ G * (G + 1) / 2
  pub first : (g : ℕ) → g < G → entry table g 0 ≡ 1
  pub last : (g : ℕ) → g < G → entry table g g ≡ 1
  pub between : (g i : ℕ) → suc g < G → i < g → entry table (suc g) (suc i) ≡ entry table g i + entry table g (suc i)

-- the binomial coefficient: how many ways there are to have i of g settings on
unfoldable pub binomial : ℕ → ℕ → ℕ
binomial zero zero = 1
binomial zero (suc i) = 0
binomial (suc g) zero = 1
binomial (suc g) (suc i) = binomial g i + binomial g (suc i)
