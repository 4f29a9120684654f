-- Setups of the sample tables by how many settings are on, as one list of statements about the definitions. Assumes nothing.
use Rattle.std.specs.Prelude.{ℕ, ◌≡◌, List, [], ◌∷◌}
use Rattle.diagram.specs.Answer.{Answer, value, refusal}
use Rattle.weighing.specs.Operations.{counting_on}
use Rattle.samples.specs.Samples.{A, A', single, empty, sheet}

-- how many have m settings on
unfoldable pub asked : List ℕ → ℕ → Answer ℕ
asked t m = counting_on t m (sheet 256)

unfoldable pub weighing_samples : List (Type 0)
weighing_samples =
    (asked A 0 ≡ value 1)
    ∷ (asked A 1 ≡ value 3)
    ∷ (asked A 2 ≡ value 1)
    ∷ (asked A 3 ≡ value 1)
    ∷ (asked A 4 ≡ value 0)
    ∷ (asked A' 2 ≡ value 2)
    ∷ (asked empty 1 ≡ value 0)
    ∷ (asked single 0 ≡ value 1)
    ∷ (counting_on A 1 (sheet 255) ≡ refusal 10 0)
    ∷ []
