-- The number, the place and the values of each case of the answers about a division. Assumes nothing.
use Rattle.std.specs.Prelude.{ℕ, Result}
use Rattle.diagram.specs.Answer.{Answer}
use Rattle.rules.specs.declared.Refusal.{Refusal}
use Rattle.rules.specs.Refusals.{answer_as}
use Rattle.division.specs.declared.Extent.{Extent}

-- start and size of a part
abbrev pub spanned_as : Result Extent Refusal → Answer (ℕ × ℕ)
spanned_as a = answer_as (λ p. (p.start.0, p.size)) a
