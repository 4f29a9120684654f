-- Lists of numbers on the sample tables, as one list of statements about the definitions. Assumes nothing.
use Rattle.std.specs.Prelude.{ℕ, ◌*◌, ◌≡◌, List, [], ◌∷◌, ◌++◌}
use Rattle.words.specs.Words.{bytes_of}
use Rattle.diagram.specs.Answer.{Answer, value, refusal}
use Rattle.lists.specs.Operations.{unranking_list, setups_after}
use Rattle.samples.specs.Samples.{A, empty, sheet}

-- a list of numbers
unfoldable pub list : List ℕ → List ℕ
list [] = []
list (x ∷ xs) = bytes_of 8 x ++ list xs

-- A's answer to a list, where there is room for so many setups
unfoldable pub answer : List ℕ → ℕ → Answer ℕ
answer ranks room = unranking_list A (list ranks) (sheet 4) room

-- a list of zeros after A's answer
unfoldable pub after : List ℕ → ℕ → List ℕ
after ranks room = setups_after A (list ranks) (sheet 4) (bytes_of (8 * room) 0)

unfoldable pub list_samples : List (Type 0)
list_samples =
    (answer (0 ∷ 4 ∷ 5 ∷ []) 3 ≡ value 3)
    ∷ (after (0 ∷ 4 ∷ 5 ∷ []) 4 ≡ list (0 ∷ 4 ∷ 7 ∷ 0 ∷ []))
    ∷ (answer (4 ∷ 3 ∷ []) 2 ≡ refusal 17 2)
    ∷ (answer (0 ∷ 6 ∷ []) 2 ≡ refusal 14 2)
    ∷ (answer (6 ∷ 5 ∷ []) 2 ≡ refusal 17 2)
    ∷ (after (0 ∷ 6 ∷ []) 2 ≡ list (0 ∷ 0 ∷ []))
    ∷ (answer (0 ∷ 4 ∷ []) 1 ≡ refusal 18 0)
    ∷ (unranking_list empty [] (sheet 1) 0 ≡ value 0)
    ∷ []
