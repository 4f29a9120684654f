-- Writing a part: what is answered, and what stands in the out memory and in the sheet afterwards. Assumes nothing.
use Rattle.std.specs.Prelude.{ℕ, ◌+◌, ◌≡◌, Bool, cond, List, length}
use Rattle.words.specs.Words.{word_at}
use Rattle.diagram.specs.Format.{settings}
use Rattle.diagram.specs.Meaning.{permitted}
use Rattle.diagram.specs.Answer.{Answer, refusal, and_then}
use Rattle.checking.specs.Operations.{checking_for, blank_for}
use Rattle.division.specs.Span.{in_part}
use Rattle.division.specs.Operations.{no_part}
use Rattle.tables.specs.Table.{table_of}
use Rattle.tables.specs.Writing.{fitted, length_of, out_after}

-- the places of the sheet that are needed for a table of N nodes
abbrev pub needed : ℕ → ℕ
needed N = N + 512

-- part j of k, of the setups of n settings that P permits, as a table that `room` bytes hold: rules 15, 16 and 11
unfoldable pub part_of : ℕ → ℕ → ℕ → ℕ → (ℕ → Bool) → Answer (List ℕ)
part_of k j room n P = cond (no_part k j) (refusal 15 0) (fitted room (table_of n (in_part k j n P)))

-- writing a part (a block of consecutive ranks, as a diagram of its own): the bytes to write, after the table's own refusals. A sheet of `need N` places is needed
unfoldable pub part_writing_for : (ℕ → ℕ) → List ℕ → ℕ → ℕ → List ℕ → ℕ → Answer (List ℕ)
part_writing_for need table k j sheet room = and_then (checking_for need table sheet) (λ _. part_of k j room (settings (word_at table)) (permitted (word_at table)))

-- ... of N + 512 places
abbrev pub part_writing : List ℕ → ℕ → ℕ → List ℕ → ℕ → Answer (List ℕ)
part_writing table k j sheet room = part_writing_for needed table k j sheet room

-- part-write's promise, of its values at entry and at return: the answer is the number of bytes written or the refusal, the out memory begins with these bytes and is else as before, and the sheet is handed back blank
pub record Promise (table : List ℕ) (k j : ℕ) (sheet out : List ℕ) (answer : Answer ℕ) (sheet' out' : List ℕ) : Type 0 where
  pub answers : answer ≡ length_of (part_writing table k j sheet (length out))
  pub writes : out' ≡ out_after (part_writing table k j sheet (length out)) out
  pub leaves : sheet' ≡ blank_for needed table sheet
