-- Sharing out c setups, in their order, among k parts (blocks of consecutive ranks), the leftover ones spread evenly. Assumes nothing.
use Rattle.std.specs.Prelude.{ℕ, ◌+◌, ◌-◌, ◌*◌, ◌/◌, ◌^◌, Bool, ◌&&◌, leb, ltb}
use Rattle.diagram.specs.Count.{count_below}

-- the rank at which part j starts: j × c / k, rounded down
unfoldable pub start : ℕ → ℕ → ℕ → ℕ
start c k j = j * c / k

-- how many setups it has: it ends before the start of part j + 1
unfoldable pub size : ℕ → ℕ → ℕ → ℕ
size c k j = start c k (j + 1) - start c k j

-- setup x is one of the z setups that P permits from rank b on
unfoldable pub within : (ℕ → Bool) → ℕ → ℕ → ℕ → Bool
within P b z x = P x && leb b (count_below P x) && ltb (count_below P x) (b + z)

-- setup x is in part j of k, of those of n settings that P permits: its rank is from start to start + size - 1
unfoldable pub in_part : ℕ → ℕ → ℕ → (ℕ → Bool) → ℕ → Bool
in_part k j n P = within P (start (count_below P (2 ^ n)) k j) (size (count_below P (2 ^ n)) k j)
