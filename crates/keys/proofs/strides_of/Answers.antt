-- `keys::strides_of` meets its contract. Assumes nothing.
use native.Mathlib.Omega.{arith}
use Rattle.keys.specs.Keys.{strides}
use Rattle.keys.proofs.Probing.{lesser}
use Rattle.keys.proofs.strides_of.Goals as goal

pub returns : goal.returns
unfolding strides
returns c = (rw (← lesser) c.min.ensures, omega arith)
