-- The span of a part: what is answered. The sheet is handed back blank (`blank`). Assumes nothing.
use Rattle.std.specs.Prelude.{ℕ, Bool, cond, ◌||◌, List, eqb, ltb, leb}
use Rattle.words.specs.Words.{word_at}
use Rattle.diagram.specs.Count.{total}
use Rattle.diagram.specs.Answer.{Answer, value, refusal, and_then}
use Rattle.checking.specs.Operations.{checking}
use Rattle.division.specs.Span.{size, start}

-- there is no part j of k: k is 0 or above 65,535, or j is k or more
unfoldable pub no_part : ℕ → ℕ → Bool
no_part k j = eqb k 0 || ltb 65535 k || leb k j

-- rule 15, and start and size of part j of k, of c setups
unfoldable pub span_of : ℕ → ℕ → ℕ → Answer (ℕ × ℕ)
span_of k j c = cond (no_part k j) (refusal 15 0) (value (start c k j, size c k j))

-- the span: after the table's own refusals
unfoldable pub spanning : List ℕ → ℕ → ℕ → List ℕ → Answer (ℕ × ℕ)
spanning table k j sheet = and_then (checking table sheet) (λ _. span_of k j (total (word_at table)))
