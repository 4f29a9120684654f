-- The number, the place and the value of each case of the answer about a list. Assumes nothing.
use Rattle.std.specs.Prelude.{ℕ, Result}
use Rattle.diagram.specs.Answer.{Answer}
use Rattle.rules.specs.declared.Refusal.{Refusal}
use Rattle.rules.specs.Refusals.{answer_as}

-- how many setups were written
abbrev pub listed_as : Result ℕ Refusal → Answer ℕ
listed_as a = answer_as (λ m. m) a
