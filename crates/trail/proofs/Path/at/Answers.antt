-- `trail::Path::at` meets its contract. Assumes nothing.
use Rattle.trail.proofs.Resuming.{trail_first}
use Rattle.trail.proofs.Path.at.Goals as goal

pub returns : goal.returns
returns c t s O q = trail_first t s _ _ _ O q
