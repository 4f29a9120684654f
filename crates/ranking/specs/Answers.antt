-- The number, the place and the values of each case of the answers of ranking and unranking. Assumes nothing.
use Rattle.std.specs.Prelude.{ℕ, Result}
use Rattle.diagram.specs.declared.Rank.{Rank}
use Rattle.diagram.specs.declared.Setup.{Setup}
use Rattle.diagram.specs.Answer.{Answer}
use Rattle.rules.specs.declared.Refusal.{Refusal}
use Rattle.rules.specs.Refusals.{answer_as}

-- a rank
abbrev pub ranked_as : Result Rank Refusal → Answer ℕ
ranked_as a = answer_as (λ r. r.0) a

-- a setup
abbrev pub unranked_as : Result Setup Refusal → Answer ℕ
unranked_as a = answer_as (λ x. x.0) a
