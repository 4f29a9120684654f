-- `distances::setting` meets its contract. Assumes nothing.
use mathlib.Core.Path.{refl}
use Rattle.diagram.specs.Meaning.{bit}
use Rattle.distances.proofs.setting.Goals as goal

pub returns : goal.returns
unfolding bit
returns c = refl
