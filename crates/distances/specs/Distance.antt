-- In how many settings two setups differ. Assumes nothing.
use Rattle.std.specs.Prelude.{ℕ, zero, suc, ◌+◌}
use Rattle.std.specs.Bool.{xor}
use Rattle.diagram.specs.Meaning.{bit}
use Rattle.diagram.specs.Count.{indicator}

-- in how many of the last h settings setups x and y differ (their Hamming distance), setting by setting
unfoldable pub distance : ℕ → ℕ → ℕ → ℕ
distance zero x y = 0
distance (suc h) x y = distance h x y + indicator (xor (bit (suc h) x) (bit (suc h) y))
