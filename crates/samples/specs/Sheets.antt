-- Sheets on the sample tables, as one list of statements about the definitions. Assumes nothing.
use Rattle.std.specs.Prelude.{ℕ, ◌≡◌, List, [], ◌∷◌, ◌++◌}
use Rattle.words.specs.Words.{bytes_of}
use Rattle.checking.specs.Operations.{blank, counts}
use Rattle.samples.specs.Samples.{table, A}
use Rattle.samples.specs.Lists.{list}

-- A with another record 3: equal edges, refused by 8; and one after which no record names node 2, refused by 9
unfoldable pub A₈ : List ℕ
A₈ = table 3 0x0C00000060000006_0400000000000001_0800000040000003_0C00000080000004

unfoldable pub A₉ : List ℕ
A₉ = table 3 0x0C00000060000006_0400000000000001_0800000040000003_0C00000040000000

-- a place and three spare bytes, filled
unfoldable pub rest : List ℕ
rest = bytes_of 11 0x0101010101010101_010101

-- a sheet of five places and three spare bytes, filled
unfoldable pub filled : List ℕ
filled = list (7 ∷ 7 ∷ 7 ∷ 7 ∷ []) ++ rest

unfoldable pub sheet_samples : List (Type 0)
sheet_samples =
    (blank A filled ≡ list (0 ∷ 0 ∷ 0 ∷ 0 ∷ []) ++ rest)
    ∷ (blank A₉ filled ≡ list (0 ∷ 0 ∷ 0 ∷ 0 ∷ []) ++ rest)
    ∷ (blank A₈ filled ≡ filled)
    ∷ (blank A rest ≡ rest)
    ∷ (counts A filled ≡ list (1 ∷ 1 ∷ 2 ∷ 6 ∷ []) ++ rest)
    ∷ (counts A₉ filled ≡ list (0 ∷ 0 ∷ 0 ∷ 0 ∷ []) ++ rest)
    ∷ []
