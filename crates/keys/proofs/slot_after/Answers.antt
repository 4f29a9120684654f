-- `keys::slot_after` meets its contract. Assumes nothing.
use mathlib.Core.Path.{sym}
use Rattle.keys.proofs.Probing.{further_near, further_round}
use Rattle.keys.proofs.slot_after.Goals as goal

pub returns-then-next-p : goal.returns-then-next-p
returns-then-next-p c = sym (further_near _ _ _ c.if-next-p.true)

pub returns-else-next-p : goal.returns-else-next-p
returns-else-next-p c = sym (further_round _ _ _ c.if-next-p.false)
