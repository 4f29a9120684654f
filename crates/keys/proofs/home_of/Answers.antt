-- `keys::home_of` meets its contract. Assumes nothing.
use Rattle.keys.specs.Keys.{home}
use Rattle.keys.proofs.home_of.Goals as goal

pub returns : goal.returns
unfolding home
returns c = c.scaled_to.ensures
