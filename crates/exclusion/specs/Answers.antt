-- The number, the place and the values of each case of the answer about a setup. Assumes nothing.
use Rattle.std.specs.Prelude.{Result}
use Rattle.std.proofs.Math.Option.{none, some}
use Rattle.diagram.specs.Answer.{Answer}
use Rattle.rules.specs.declared.Refusal.{Refusal}
use Rattle.rules.specs.Refusals.{answer_as}
use Rattle.exclusion.specs.Finding.{Finding, is_permitted, ruled_out}
use Rattle.exclusion.specs.declared.Ruling.{Ruling}
use Rattle.exclusion.specs.declared.Ruling.TheVariants.{Permitted, Empty, By}

-- what was found of a setup
abbrev pub finding_of : Ruling → Finding
finding_of Permitted = is_permitted
finding_of Empty = ruled_out 0 none
finding_of (By e) = ruled_out e.settings (some e.given.0)

-- ... or why nothing was
abbrev pub found_as : Result Ruling Refusal → Answer Finding
found_as a = answer_as finding_of a
