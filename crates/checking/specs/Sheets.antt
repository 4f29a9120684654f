-- How a sheet is handed back, in the words of request 3. Assumes nothing.
use Rattle.std.specs.Prelude.{ℕ, ◌*◌, ◌≤◌, ◌<◌, ◌≡◌, ◌≢◌, List, length, drop}
use Rattle.words.specs.Words.{word_at}
use Rattle.diagram.specs.Answer.{Answer, refusal}

-- one of the refusals that come before 9: 1 to 8, and 10
abbrev pub BeforeNine : {A : Type 0} → Answer A → Type 0
BeforeNine answer = (number : ℕ) × (place : ℕ) × (answer ≡ refusal number place) × (number ≤ 10) × (number ≢ 9)

-- after an answer of an operation that requires m places
pub record HandedBack {A : Type 0} (m : ℕ) (answer : Answer A) (sheet sheet' : List ℕ) : Type 0 where
  -- refusals 1 to 8 and 10 touch nothing
  pub untouched : BeforeNine answer → sheet' ≡ sheet
  -- after every other answer, a result or a refusal, the places required are all zero
  pub zero : (BeforeNine answer → ⊥) → (k : ℕ) → k < m → word_at sheet' k ≡ 0
  -- the places past them and the spare bytes are always as before
  pub past : drop (8 * m) sheet' ≡ drop (8 * m) sheet
  pub same_length : length sheet' ≡ length sheet
