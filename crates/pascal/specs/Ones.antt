-- Setups by how many settings are on. Assumes nothing.
use Rattle.std.specs.Prelude.{ℕ, zero, suc, ◌+◌, ◌^◌, Bool, ◌&&◌, eqb}
use Rattle.diagram.specs.Meaning.{bit}
use Rattle.diagram.specs.Count.{indicator, count_below}

-- how many of the last h settings of setup x are on: its ones (its weight), counted bit by bit
unfoldable pub ones : ℕ → ℕ → ℕ
ones zero x = 0
ones (suc h) x = ones h x + indicator (bit (suc h) x)

-- how many setups of n settings pass the test P and have exactly m settings on
unfoldable pub count_on : (ℕ → Bool) → ℕ → ℕ → ℕ
count_on P n m = count_below (λ x. P x && eqb (ones n x) m) (2 ^ n)

-- f 0 + f 1 + .. + f (m - 1)
unfoldable pub sum : (ℕ → ℕ) → ℕ → ℕ
sum f zero = 0
sum f (suc m) = sum f m + f m
