-- The number, the place and the values of each case of the operations' answers. Assumes nothing.
use Rattle.std.specs.Prelude.{ℕ, Bool, Result}
use Rattle.diagram.specs.Answer.{Answer}
use Rattle.rules.specs.declared.Refusal.{Refusal}
use Rattle.rules.specs.Refusals.{answer_as}
use Rattle.checking.specs.declared.Shape.{Shape}

-- n and N of an accepted table
abbrev pub checked_as : Result Shape Refusal → Answer (ℕ × ℕ)
checked_as a = answer_as (λ s. (s.settings, s.nodes)) a

-- C
abbrev pub counted_as : Result ℕ Refusal → Answer ℕ
counted_as a = answer_as (λ c. c) a

-- whether a setup is permitted
abbrev pub tested_as : Result Bool Refusal → Answer Bool
tested_as a = answer_as (λ b. b) a
