-- A loose form of table A, and what it permits, as one list of statements about the definitions. Assumes nothing.
use Rattle.std.specs.Prelude.{ℕ, ◌≡◌, List, [], ◌∷◌}
use Rattle.loose.specs.Rules.{IsLoose}
use Rattle.samples.specs.Samples.{table, A, setups}

-- the root edge and the then-edge of record 1 are flagged, records 1 and 3 have forward edges, 4 is unused, 5 is 2 again, 6 has equal edges
unfoldable pub loose_a : List ℕ
loose_a = table 6 0x0C000000C0000003_0C000000E000000D_0400000000000001_0800000140000005_0800000080000001_0400000000000001_0800000000000000

unfoldable pub loose_samples : List (Type 0)
loose_samples = IsLoose loose_a 3 6 ∷ (setups loose_a ≡ setups A) ∷ []
