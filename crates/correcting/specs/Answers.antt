-- The number, the place and the values of each case of the answer. Assumes nothing.
use Rattle.std.specs.Prelude.{ℕ, Result}
use Rattle.diagram.specs.Answer.{Answer}
use Rattle.rules.specs.declared.Refusal.{Refusal}
use Rattle.rules.specs.Refusals.{answer_as}
use Rattle.correcting.specs.declared.Correction.{Correction}

-- a setup, and in how many settings it differs
abbrev pub corrected_as : Result Correction Refusal → Answer (ℕ × ℕ)
corrected_as a = answer_as (λ c. (c.setup.0, c.distance)) a
