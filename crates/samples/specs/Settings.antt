-- The way down to number 5 of table A, setting by setting, as one list of statements about the definitions. Assumes nothing.
use Rattle.std.specs.Prelude.{◌≡◌, List, [], ◌∷◌}
use Rattle.words.specs.Words.{word_at}
use Rattle.diagram.specs.Meaning.{permitted}
use Rattle.descent.specs.Settings.{count_beginning, IsLeft}
use Rattle.samples.specs.Samples.{A}

-- nothing chosen yet, then 1, 11 and 111: 5, 1, 0 and 0 are left; how many setups begin so, and with a 0 in place of the last 1
unfoldable pub setting_samples : List (Type 0)
setting_samples =
    IsLeft (permitted (word_at A)) 3 5 3 0 5
    ∷ IsLeft (permitted (word_at A)) 3 5 2 1 1
    ∷ IsLeft (permitted (word_at A)) 3 5 1 3 0
    ∷ IsLeft (permitted (word_at A)) 3 5 0 7 0
    ∷ (count_beginning (permitted (word_at A)) 3 3 0 ≡ 6)
    ∷ (count_beginning (permitted (word_at A)) 3 2 1 ≡ 2)
    ∷ (count_beginning (permitted (word_at A)) 3 2 0 ≡ 4)
    ∷ (count_beginning (permitted (word_at A)) 3 1 3 ≡ 1)
    ∷ (count_beginning (permitted (word_at A)) 3 1 2 ≡ 1)
    ∷ (count_beginning (permitted (word_at A)) 3 0 7 ≡ 1)
    ∷ (count_beginning (permitted (word_at A)) 3 0 6 ≡ 0)
    ∷ []
