-- Checking, counting and testing: what each answers, and what stands in the sheet afterwards. Assumes nothing.
use Rattle.std.specs.Prelude.{ℕ, ◌+◌, ◌/◌, ◌^◌, Bool, cond, List, eqb, leb, length}
use Rattle.words.specs.Words.{word_at, words_over}
use Rattle.diagram.specs.Format.{settings, nodes}
use Rattle.diagram.specs.Meaning.{permitted}
use Rattle.diagram.specs.Count.{place, total}
use Rattle.diagram.specs.Answer.{Answer, value, refusal, and_then}
use Rattle.diagram.specs.Rules.{check}

-- checking: n and N. A sheet of `need N` places is needed
unfoldable pub checking_for : (ℕ → ℕ) → List ℕ → List ℕ → Answer (ℕ × ℕ)
checking_for need table sheet = check table (length sheet / 8) need

-- ... of N + 1 places, as for most operations
abbrev pub checking : List ℕ → List ℕ → Answer (ℕ × ℕ)
checking table sheet = checking_for (λ N. N + 1) table sheet

-- counting: C
unfoldable pub counting : List ℕ → List ℕ → Answer ℕ
counting table sheet = and_then (checking table sheet) (λ _. value (total (word_at table)))

-- rule 12, and whether P permits setup x of n settings
unfoldable pub test_setup : ℕ → ℕ → (ℕ → Bool) → Answer Bool
test_setup x n P = cond (leb (2 ^ n) x) (refusal 12 0) (value (P x))

-- testing: whether setup x is permitted, after the table's own refusals
unfoldable pub testing : List ℕ → ℕ → List ℕ → Answer Bool
testing table x sheet = and_then (checking table sheet) (λ _. test_setup x (settings (word_at table)) (permitted (word_at table)))

-- the sheet after an answer of the check: its first m places hold f, or zeros after 9, or it is untouched. Past them, and in spare bytes, it is always as before
unfoldable pub sheet_by : {A : Type 0} → (ℕ → ℕ) → ℕ → Answer A → List ℕ → List ℕ
sheet_by f m (value v) sheet = words_over f m sheet
sheet_by f m (refusal number at) sheet = cond (eqb number 9) (words_over (λ _. 0) m sheet) sheet

-- the blank sheet, which every operation but counting hands back: the `need N` places that it needs are zero once the rules before 9 are passed
unfoldable pub blank_for : (ℕ → ℕ) → List ℕ → List ℕ → List ℕ
blank_for need table sheet = sheet_by (λ _. 0) (need (nodes (word_at table))) (checking_for need table sheet) sheet

-- ... of N + 1 places
abbrev pub blank : List ℕ → List ℕ → List ℕ
blank table sheet = blank_for (λ N. N + 1) table sheet

-- the sheet after counting: the counts
unfoldable pub counts : List ℕ → List ℕ → List ℕ
counts table sheet = sheet_by (place (word_at table)) (nodes (word_at table) + 1) (checking table sheet) sheet
