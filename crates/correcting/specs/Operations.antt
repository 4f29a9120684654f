-- The closest permitted setup: what is answered. The sheet is handed back blank (`blank_for needed`). Assumes nothing.
use Rattle.std.specs.Prelude.{ℕ, ◌+◌, ◌*◌, Bool, List}
use Rattle.words.specs.Words.{word_at}
use Rattle.diagram.specs.Format.{settings}
use Rattle.diagram.specs.Meaning.{permitted}
use Rattle.diagram.specs.Answer.{Answer, and_then}
use Rattle.checking.specs.Operations.{checking_for, test_setup}
use Rattle.correcting.specs.Search.{closest}

-- the places of the sheet that are needed for a table of N nodes
abbrev pub needed : ℕ → ℕ
needed N = 2 * (N + 1)

-- the test's rule 12, and the setup closest to x of n settings
unfoldable pub closest_setup : ℕ → ℕ → (ℕ → Bool) → Answer (ℕ × ℕ)
closest_setup x n P = and_then (test_setup x n P) (λ _. closest P n x)

-- the permitted setup closest to x, and in how many settings it differs, after the table's own refusals
unfoldable pub correcting : List ℕ → ℕ → List ℕ → Answer (ℕ × ℕ)
correcting table x sheet = and_then (checking_for needed table sheet) (λ _. closest_setup x (settings (word_at table)) (permitted (word_at table)))
