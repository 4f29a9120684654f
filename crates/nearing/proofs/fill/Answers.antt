use mathlib.Core.Path.{refl}
use Rattle.nearing.proofs.Entering.{sink_filled}
use Rattle.nearing.proofs.fill.Goals as goal
use Rattle.nearing.proofs.fill.Goals.{At-loop-k}

pub loop-k-init : goal.loop-k-init
loop-k-init c = (sink_filled _ _ _ _ _ c.requires, refl)
