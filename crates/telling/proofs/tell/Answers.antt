-- `telling::tell` meets its contract: case by case. Assumes nothing.
use mathlib.Core.Path.{refl}
use Rattle.telling.specs.Told.{returned, told}
use Rattle.telling.proofs.tell.Goals as goal

pub returns-in-Ok : goal.returns-in-Ok
unfolding returned told
returns-in-Ok g c = rw c.in-Ok.is (refl, c.words.ensures)

pub returns-in-Err : goal.returns-in-Err
unfolding returned told
returns-in-Err g c = rw c.in-Err.is c.tell_refusal.ensures
