-- Setups that the sample tables rule out or permit, as one list of statements about the definitions. Assumes nothing.
use Rattle.std.specs.Prelude.{ℕ, ◌≡◌, List, [], ◌∷◌}
use Rattle.std.proofs.Math.Option.{none, some}
use Rattle.diagram.specs.Answer.{Answer, value, refusal}
use Rattle.exclusion.specs.Finding.{Finding, is_permitted, ruled_out}
use Rattle.exclusion.specs.Operations.{ruling_out}
use Rattle.samples.specs.Samples.{A, A', A₀, single, empty, sheet}

-- what is found of a setup
unfoldable pub asked : List ℕ → ℕ → Answer Finding
asked t x = ruling_out t x (sheet 4)

unfoldable pub exclusion_samples : List (Type 0)
exclusion_samples =
    (asked A 5 ≡ value (ruled_out 3 (some 4)))
    ∷ (asked A 6 ≡ value (ruled_out 3 (some 7)))
    ∷ (asked A 4 ≡ value is_permitted)
    ∷ (asked A 8 ≡ refusal 12 0)
    ∷ (asked A' 3 ≡ value (ruled_out 1 (some 5)))
    ∷ (asked A₀ 6 ≡ value (ruled_out 1 (some 0)))
    ∷ (asked A₀ 3 ≡ value (ruled_out 3 (some 2)))
    ∷ (asked empty 5 ≡ value (ruled_out 0 none))
    ∷ (asked single 0 ≡ value is_permitted)
    ∷ []
