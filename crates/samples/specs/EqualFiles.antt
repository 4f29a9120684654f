-- Why each premise of `EqualFiles` is there: pairs of tables that differ and permit the same setups, as one list of statements about the definitions. Assumes nothing.
use Rattle.std.specs.Prelude.{ℕ, ◌≡◌, List, [], ◌∷◌}
use Rattle.words.specs.Words.{word_at}
use Rattle.diagram.specs.Meaning.{permitted}
use Rattle.diagram.specs.Answer.{Answer, value, refusal}
use Rattle.diagram.specs.Rules.{check, Accepts}
use Rattle.samples.specs.Samples.{table, single, setups}

-- everything of one setting; the same with a last record that nothing leads to (rule 3), and by a record of equal edges (rule 8)
unfoldable pub always : List ℕ
always = table 0 0x0400000000000000

unfoldable pub left_over : List ℕ
left_over = table 1 0x0400000020000000_0400000000000001

unfoldable pub idle : List ℕ
idle = table 1 0x0400000020000002_0400000000000000

-- nothing of one setting; the same by a record that tests a setting before the first (rule 4)
unfoldable pub never : List ℕ
never = table 0 0x0400000000000001

unfoldable pub too_tall : List ℕ
too_tall = table 1 0x0400000020000002_0800000000000001

-- the one setting is on; the same by a flagged then-edge (rule 7)
unfoldable pub on : List ℕ
on = table 1 0x0400000020000002_0400000000000001

unfoldable pub turned : List ℕ
turned = table 1 0x0400000020000003_0400000020000000

-- setting 2 where setting 1 is on, setting 3 where it is off; with its first two records exchanged (rule 5)
unfoldable pub chosen : List ℕ
chosen = table 3 0x0C00000060000006_0400000000000001_0800000000000001_0C00000080000002

unfoldable pub exchanged : List ℕ
exchanged = table 3 0x0C00000060000006_0800000000000001_0400000000000001_0C00000040000004

-- the first of two settings is on; the same with another record, that nothing leads to (rule 9)
unfoldable pub first_on : List ℕ
first_on = table 1 0x0800000020000002_0800000000000001

unfoldable pub unused : List ℕ
unused = table 2 0x0800000040000004_0400000000000001_0800000000000001

-- what the rules say of an accepted table and of another one that permits the same setups
unfoldable pub two_tables : List ℕ → List ℕ → Answer (ℕ × ℕ) × Answer (ℕ × ℕ) × List ℕ
two_tables s t = (check s 0 (λ _. 0), check t 0 (λ _. 0), setups t)

unfoldable pub equal_samples : List (Type 0)
equal_samples =
    (two_tables always left_over ≡ (value (1, 0), refusal 3 0, setups always))
    ∷ (two_tables never too_tall ≡ (value (1, 0), refusal 4 1, setups never))
    ∷ (two_tables chosen exchanged ≡ (value (3, 3), refusal 5 2, setups chosen))
    ∷ (two_tables on turned ≡ (value (1, 1), refusal 7 1, setups on))
    ∷ (two_tables always idle ≡ (value (1, 0), refusal 8 1, setups always))
    ∷ (two_tables first_on unused ≡ (value (2, 1), refusal 9 1, setups first_on))
    ∷ Accepts single 0 0
    ∷ Accepts always 1 0
    ∷ (permitted (word_at single) 0 ≡ permitted (word_at always) 0)
    ∷ []
