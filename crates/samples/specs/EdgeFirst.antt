-- Tables whose second or third record is refused, by the former order of the rules and by the present one, as one list of statements about the definitions. Assumes nothing.
use Rattle.std.specs.Prelude.{ℕ, ◌+◌, ◌≡◌, List, [], ◌∷◌}
use Rattle.diagram.specs.Answer.{Answer, refusal}
use Rattle.checking.specs.Operations.{checking}
use Rattle.checking.specs.EdgeFirst.{former_for}
use Rattle.samples.specs.Samples.{table, sheet}

-- rules 5 and 6 are broken, by an edge to an earlier record of greater height (the request's example), of equal height, and to the record itself
unfoldable pub higher : List ℕ
higher = table 2 0x0800000040000004_0800000000000001_0400000040000001

unfoldable pub level : List ℕ
level = table 3 0x0800000060000006_0400000000000001_0800000040000001_0800000000000004

unfoldable pub itself : List ℕ
itself = table 2 0x0800000040000004_0800000000000001_0400000000000004

-- rule 4 too; rule 5 alone; rule 6 alone
unfoldable pub flat : List ℕ
flat = table 2 0x0800000040000004_0800000000000001_0000000040000001

unfoldable pub fallen : List ℕ
fallen = table 2 0x0800000040000004_0800000000000001_0400000000000001

unfoldable pub astray : List ℕ
astray = table 2 0x0800000040000004_0400000000000001_0800000000000004

-- what a table was answered, and what it is
unfoldable pub orders : List ℕ → Answer (ℕ × ℕ) × Answer (ℕ × ℕ)
orders t = (former_for (λ N. N + 1) t (sheet 4), checking t (sheet 4))

unfoldable pub edge_samples : List (Type 0)
edge_samples =
    (orders higher ≡ (refusal 5 2, refusal 6 2))
    ∷ (orders level ≡ (refusal 5 3, refusal 6 3))
    ∷ (orders itself ≡ (refusal 5 2, refusal 6 2))
    ∷ (orders flat ≡ (refusal 4 2, refusal 4 2))
    ∷ (orders fallen ≡ (refusal 5 2, refusal 5 2))
    ∷ (orders astray ≡ (refusal 6 2, refusal 6 2))
    ∷ []
