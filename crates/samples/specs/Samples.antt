-- The paper's samples that are marked to be proved, as one list of statements about the definitions. Assumes nothing.
use Rattle.std.specs.Prelude.{ℕ, zero, suc, ◌+◌, ◌*◌, ◌^◌, ◌≡◌, Bool, cond, List, [], ◌∷◌, ◌++◌, map}
use Rattle.words.specs.Words.{word_at, bytes_of}
use Rattle.diagram.specs.Format.{settings}
use Rattle.diagram.specs.Meaning.{permitted}
use Rattle.diagram.specs.Count.{place}
use Rattle.diagram.specs.Answer.{Answer, value, refusal}
use Rattle.checking.specs.Operations.{counting}
use Rattle.ranking.specs.Operations.{ranking, unranking}
use Rattle.division.specs.Operations.{spanning}
use Rattle.parts.specs.Operations.{part_writing}

-- a table of N nodes, shown as hexadecimal digits
unfoldable pub table : ℕ → ℕ → List ℕ
table N digits = bytes_of (8 * (N + 1)) digits

unfoldable pub A : List ℕ
A = table 3 0x0C00000060000006_0400000000000001_0800000040000003_0C00000080000000

-- A with the root edge complemented
unfoldable pub A' : List ℕ
A' = table 3 0x0C00000060000007_0400000000000001_0800000040000003_0C00000080000000

-- the parts of A, of two
unfoldable pub A₀ : List ℕ
A₀ = table 3 0x0C00000060000007_0400000000000001_0800000040000001_0C00000000000004

unfoldable pub A₁ : List ℕ
A₁ = table 4 0x0C00000080000008_0400000000000001_0800000040000001_0800000040000003_0C000000C0000004

-- everything of 63 settings, everything of none, nothing of 3
unfoldable pub full : List ℕ
full = table 0 0xFC00000000000000

unfoldable pub single : List ℕ
single = table 0 0x0000000000000000

unfoldable pub empty : List ℕ
empty = table 0 0x0C00000000000001

-- the numbers below m that pass P
unfoldable pub members : (ℕ → Bool) → ℕ → List ℕ
members P zero = []
members P (suc m) = members P m ++ cond (P m) (m ∷ []) []

-- the permitted setups, in their order
unfoldable pub setups : List ℕ → List ℕ
setups t = members (permitted (word_at t)) (2 ^ settings (word_at t))

-- a sheet of m places
unfoldable pub sheet : ℕ → List ℕ
sheet m = bytes_of (8 * m) 0

-- starts and sizes of the parts of A, of k
unfoldable pub parts : ℕ → List ℕ → List (Answer (ℕ × ℕ))
parts k indexes = map (λ j. spanning A k j (sheet 4)) indexes

-- every statement of a list holds
unfoldable pub All : List (Type 0) → Type 0
All [] = Unit {0}
All (p ∷ ps) = p × All ps

unfoldable pub samples : List (Type 0)
samples =
    (counting A (sheet 4) ≡ value 6)
    ∷ (map (place (word_at A)) (0 ∷ 1 ∷ 2 ∷ 3 ∷ []) ≡ 1 ∷ 1 ∷ 2 ∷ 6 ∷ [])
    ∷ (setups A ≡ 0 ∷ 1 ∷ 2 ∷ 3 ∷ 4 ∷ 7 ∷ [])
    ∷ (counting A' (sheet 4) ≡ value 2)
    ∷ (setups A' ≡ 5 ∷ 6 ∷ [])
    ∷ (ranking A 7 (sheet 4) ≡ value 5)
    ∷ (ranking A 5 (sheet 4) ≡ refusal 13 0)
    ∷ (ranking A 8 (sheet 4) ≡ refusal 12 0)
    ∷ (unranking A 4 (sheet 4) ≡ value 4)
    ∷ (unranking A 5 (sheet 4) ≡ value 7)
    ∷ (unranking A 6 (sheet 4) ≡ refusal 14 0)
    ∷ (parts 4 (0 ∷ 1 ∷ 2 ∷ 3 ∷ []) ≡ value (0, 1) ∷ value (1, 2) ∷ value (3, 1) ∷ value (4, 2) ∷ [])
    ∷ (parts 8 (0 ∷ 1 ∷ 2 ∷ 3 ∷ 4 ∷ 5 ∷ 6 ∷ 7 ∷ [])
    ≡ value (0, 0) ∷ value (0, 1) ∷ value (1, 1) ∷ value (2, 1) ∷ value (3, 0) ∷ value (3, 1) ∷ value (4, 1) ∷ value (5, 1) ∷ [])
    ∷ (part_writing A 2 0 (sheet 515) 32 ≡ value A₀)
    ∷ (part_writing A 2 1 (sheet 515) 40 ≡ value A₁)
    ∷ (counting full (sheet 1) ≡ value 9223372036854775808)
    ∷ (counting single (sheet 1) ≡ value 1)
    ∷ (setups single ≡ 0 ∷ [])
    ∷ (counting empty (sheet 1) ≡ value 0)
    ∷ (unranking empty 0 (sheet 1) ≡ refusal 14 0)
    ∷ []
