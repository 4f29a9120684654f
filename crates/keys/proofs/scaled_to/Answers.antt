-- `keys::scaled_to` meets its contract. Assumes nothing.
use Rattle.keys.specs.Keys.{scaled}
use Rattle.keys.proofs.scaled_to.Goals as goal

pub returns : goal.returns
unfolding scaled
returns c = rw c.homes_of.ensures.0
