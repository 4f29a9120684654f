-- An answer for C as a number returned and the three words of `answer`. Assumes nothing.
use Rattle.std.specs.Prelude.{ℕ, List, [], ◌∷◌}
use Rattle.std.proofs.Math.Option.{none, some}
use Rattle.diagram.specs.Answer.{Answer, value, refusal}
use Rattle.exclusion.specs.Finding.{Finding, is_permitted, ruled_out}

-- three words, of which only the first is used
abbrev pub single : ℕ → List ℕ
single v = v ∷ 0 ∷ 0 ∷ []

-- ... of which the first two are
abbrev pub double : ℕ × ℕ → List ℕ
double (a, b) = a ∷ b ∷ 0 ∷ []

-- what was found of a setup: 0 if it is permitted, 1 if no setup is given, or 2, p and the setup given
unfoldable pub found_words : Finding → List ℕ
found_words is_permitted = single 0
found_words (ruled_out p none) = single 1
found_words (ruled_out p (some y)) = 2 ∷ p ∷ y ∷ []

-- what is returned: 0, or the refusal's number
unfoldable pub returned : {A : Type 0} → Answer A → ℕ
returned (value a) = 0
returned (refusal number place) = number

-- the words: the value as f gives it, or the refusal's place
unfoldable pub told : {A : Type 0} → (A → List ℕ) → Answer A → List ℕ
told f (value a) = f a
told f (refusal number place) = single place

-- the words of an answer about two tables: the value, or the refusal's place and the table that it is of
unfoldable pub told_of : ℕ → Answer ℕ → List ℕ
told_of table (value v) = single v
told_of table (refusal number place) = place ∷ table ∷ 0 ∷ []
