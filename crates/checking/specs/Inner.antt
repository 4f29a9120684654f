-- The check's answers, and the sheet while an operation has it: for inner contracts only. Assumes nothing.
use Rattle.std.specs.Prelude.{ℕ, ◌*◌, ◌≡◌, List, drop, Result, Ok, Err}
use Rattle.words.specs.Words.{word_at}
use Rattle.diagram.specs.Answer.{Answer}
use Rattle.diagram.specs.Reading.{IsHeader}
use Rattle.diagram.specs.declared.Header.{Header}
use Rattle.rules.specs.declared.Refusal.{Refusal}
use Rattle.rules.specs.Refusals.{answer_as}
use Rattle.checking.specs.Operations.{checking_for, blank_for}

-- n and N of a header
abbrev pub header_as : Result Header Refusal → Answer (ℕ × ℕ)
header_as a = answer_as (λ h. (h.settings, h.nodes)) a

-- the check hands on the table's header, and leaves the sheet to the operation as it was lent; or it refuses, and hands it back blank
abbrev pub Lends : (ℕ → ℕ) → List ℕ → List ℕ → List ℕ → Result Header Refusal → Type 0
Lends need table sheet sheet' (Ok h) = IsHeader (word_at table) h.settings h.nodes h.root.value × (sheet' ≡ sheet)
Lends need table sheet sheet' (Err r) = sheet' ≡ blank_for need table sheet

-- how an operation begins that needs `need N` places: with this answer of the check, and this sheet
pub record Begins (need : ℕ → ℕ) (table sheet sheet' : List ℕ) (answer : Result Header Refusal) : Type 0 where
  pub answers : header_as answer ≡ checking_for need table sheet
  pub lends : Lends need table sheet sheet' answer

-- past its first m places a sheet is as before
abbrev pub Past : ℕ → List ℕ → List ℕ → Type 0
Past m sheet sheet' = drop (8 * m) sheet' ≡ drop (8 * m) sheet
