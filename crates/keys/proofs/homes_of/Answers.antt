-- `keys::homes_of` meets its contract. Assumes nothing.
use native.Mathlib.Omega.{arith}
use Rattle.keys.specs.Keys.{homes}
use Rattle.keys.proofs.Probing.{lesser}
use Rattle.keys.proofs.homes_of.Goals as goal

pub returns : goal.returns
unfolding homes
returns c = (rw (← lesser) c.min.ensures, omega arith)
