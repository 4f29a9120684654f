-- `keys::mixed_of` meets its contract. Assumes nothing.
use mathlib.Core.Path.{refl}
use Rattle.keys.specs.Keys.{mixed}
use Rattle.keys.proofs.mixed_of.Goals as goal

pub returns : goal.returns
returns c = unfold mixed in refl
