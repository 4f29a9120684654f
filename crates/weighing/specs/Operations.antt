-- Counting by how many settings are on: what is answered. The sheet is handed back blank (`blank_for needed`). Assumes nothing.
use Rattle.std.specs.Prelude.{ℕ, ◌+◌, ◌*◌, List}
use Rattle.words.specs.Words.{word_at}
use Rattle.diagram.specs.Format.{Words, settings}
use Rattle.diagram.specs.Meaning.{permitted}
use Rattle.diagram.specs.Answer.{Answer, value, and_then}
use Rattle.checking.specs.Operations.{checking_for}
use Rattle.pascal.specs.Ones.{count_on}

-- the places of the sheet that are needed for a table of N nodes
abbrev pub needed : ℕ → ℕ
needed N = 64 * (N + 1)

-- how many setups with exactly m settings on the table permits
unfoldable pub total_on : Words → ℕ → ℕ
total_on w m = count_on (permitted w) (settings w) m

-- counting them, after the table's own refusals
unfoldable pub counting_on : List ℕ → ℕ → List ℕ → Answer ℕ
counting_on table m sheet = and_then (checking_for needed table sheet) (λ _. value (total_on (word_at table) m))
