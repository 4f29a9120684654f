-- The permitted setups closest to others in the sample tables, as one list of statements about the definitions. Assumes nothing.
use Rattle.std.specs.Prelude.{ℕ, ◌≡◌, List, [], ◌∷◌}
use Rattle.diagram.specs.Answer.{Answer, value, refusal}
use Rattle.correcting.specs.Operations.{correcting}
use Rattle.samples.specs.Samples.{A, A', single, empty, sheet}

-- the closest setup, and in how many settings it differs
unfoldable pub corrected : List ℕ → ℕ → Answer (ℕ × ℕ)
corrected t x = correcting t x (sheet 8)

unfoldable pub correcting_samples : List (Type 0)
correcting_samples =
    (corrected A 5 ≡ value (1, 1))
    ∷ (corrected A 4 ≡ value (4, 0))
    ∷ (corrected A 6 ≡ value (2, 1))
    ∷ (corrected A 8 ≡ refusal 12 0)
    ∷ (corrected A' 0 ≡ value (5, 2))
    ∷ (corrected A' 2 ≡ value (6, 1))
    ∷ (corrected empty 5 ≡ refusal 21 0)
    ∷ (corrected empty 8 ≡ refusal 12 0)
    ∷ (corrected single 0 ≡ value (0, 0))
    ∷ (correcting A 5 (sheet 7) ≡ refusal 10 0)
    ∷ []
