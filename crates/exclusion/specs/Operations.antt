-- The settings that rule a setup out: what is answered. The sheet is handed back blank (`blank`). Assumes nothing.
use Rattle.std.specs.Prelude.{ℕ, Bool, List}
use Rattle.words.specs.Words.{word_at}
use Rattle.diagram.specs.Format.{settings}
use Rattle.diagram.specs.Meaning.{permitted}
use Rattle.diagram.specs.Answer.{Answer, value, and_then}
use Rattle.checking.specs.Operations.{checking, test_setup}
use Rattle.exclusion.specs.Finding.{Finding, finding}

-- the test's rule 12, and what is found of setup x of n settings
unfoldable pub find_setup : ℕ → ℕ → (ℕ → Bool) → Answer Finding
find_setup x n P = and_then (test_setup x n P) (λ _. value (finding P n x))

-- what is found of setup x, after the table's own refusals
unfoldable pub ruling_out : List ℕ → ℕ → List ℕ → Answer Finding
ruling_out table x sheet = and_then (checking table sheet) (λ _. find_setup x (settings (word_at table)) (permitted (word_at table)))
