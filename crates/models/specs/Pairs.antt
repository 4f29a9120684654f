-- Pairs of model and setup: which are permitted, how many there are, and their numbers. P i are the setups of n settings that model i permits; models count from 0. Assumes nothing.
use Rattle.std.specs.Prelude.{ℕ, ◌+◌, ◌*◌, ◌/◌, ◌%◌, ◌^◌, Bool}
use Rattle.diagram.specs.Count.{count_below}
use Rattle.pascal.specs.Ones.{sum}

-- a pair as one number: pairs are in order by model, then by setup
unfoldable pub pair_of : ℕ → ℕ → ℕ → ℕ
pair_of n i x = i * 2 ^ n + x

-- whether pair v is permitted: its model permits its setup
unfoldable pub pair_test : ℕ → (ℕ → ℕ → Bool) → ℕ → Bool
pair_test n P v = P (v / 2 ^ n) (v % 2 ^ n)

-- the sum of the counts of models 0 to m - 1
unfoldable pub sum_counts : ℕ → (ℕ → ℕ → Bool) → ℕ → ℕ
sum_counts n P m = sum (λ i. count_below (P i) (2 ^ n)) m
