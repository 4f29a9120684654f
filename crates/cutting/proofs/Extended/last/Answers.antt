-- `cutting::Extended::last` meets its contract. Assumes nothing.
use mathlib.Core.Path.{refl}
use Rattle.cutting.proofs.Extended.last.Goals as goal

pub returns : goal.returns
returns c = refl
