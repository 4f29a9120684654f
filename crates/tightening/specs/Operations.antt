-- A loose table made proper: what is answered, and what stands in the sheet and in the out memory afterwards. Assumes nothing.
use Rattle.std.specs.Prelude.{ℕ, ◌+◌, ◌*◌, ◌/◌, ◌≤◌, ◌≡◌, List, length}
use Rattle.std.proofs.Math.Option.{some}
use Rattle.words.specs.Words.{word_at}
use Rattle.diagram.specs.Format.{settings, nodes}
use Rattle.diagram.specs.Meaning.{permitted}
use Rattle.diagram.specs.Answer.{Answer, value, and_then}
use Rattle.loose.specs.Rules.{check_loose}
use Rattle.checking.specs.Operations.{sheet_by}
use Rattle.tables.specs.Table.{node_count, table_of}
use Rattle.tables.specs.Writing.{fitted, length_of, out_after}

-- how many places of the sheet are needed
abbrev pub needed : ℕ → ℕ
needed N = 8 * N + 512

-- the loose table's own refusals, or its n and N
unfoldable pub checking_loose : List ℕ → List ℕ → Answer (ℕ × ℕ)
checking_loose table sheet = check_loose table (length sheet / 8) needed

-- the bytes to write: the table of the setups that the loose table permits, if `room` bytes hold it
unfoldable pub making_proper : List ℕ → List ℕ → ℕ → Answer (List ℕ)
making_proper table sheet room = and_then (checking_loose table sheet) (λ _. fitted room (table_of (settings (word_at table)) (permitted (word_at table))))

-- the sheet afterwards: untouched by the loose table's own refusals; after everything else the places that are needed are zero
unfoldable pub sheet_after : List ℕ → List ℕ → List ℕ
sheet_after table sheet = sheet_by (λ _. 0) (needed (nodes (word_at table))) (checking_loose table sheet) sheet

-- the promise, of the values at entry and at return: the answer, the out memory and the sheet; and that there is a table to be written, with no more nodes than the loose one
pub record Promise (table sheet out : List ℕ) (answer : Answer ℕ) (sheet' out' : List ℕ) : Type 0 where
  pub answers : answer ≡ length_of (making_proper table sheet (length out))
  pub writes : out' ≡ out_after (making_proper table sheet (length out)) out
  pub blanks : sheet' ≡ sheet_after table sheet
  pub not_more : (n N : ℕ) → checking_loose table sheet ≡ value (n, N) → (N' : ℕ) × (N' ≤ N) × (node_count n (permitted (word_at table)) ≡ some N')
