-- The number, the place and the value of each case of the answer of an operation that writes a table. Assumes nothing.
use Rattle.std.specs.Prelude.{ℕ, Result}
use Rattle.diagram.specs.Answer.{Answer}
use Rattle.rules.specs.declared.Refusal.{Refusal}
use Rattle.rules.specs.Refusals.{answer_as}

-- the number of bytes written
abbrev pub written_as : Result ℕ Refusal → Answer ℕ
written_as a = answer_as (λ m. m) a
