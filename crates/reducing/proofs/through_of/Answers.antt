-- `reducing::through_of` meets its contract. Assumes nothing.
use mathlib.Core.Path.{ap, ◌∙◌}
use Rattle.diagram.specs.Reading.{turn}
use Rattle.reducing.specs.Levels.{through}
use Rattle.reducing.proofs.through_of.Goals as goal

pub returns : goal.returns
unfolding through
returns c = c.turned_by.ensures ∙ ap (turn _) c.word_at-place.ensures
