-- `exclusion::way::turned` meets its contract. Assumes nothing.
use Rattle.exclusion.proofs.Turning.{turned_off, next_fits, turned_on}
use Rattle.exclusion.proofs.way.turned.Goals as goal

pub returns-then-digits-eq1 : goal.returns-then-digits-eq1
returns-then-digits-eq1 c = let p = c.requires in turned_off _ _ p.0 p.1 p.2 c.if-digits-eq1.true

pub overflow_add-result : goal.overflow_add-result
overflow_add-result c = let p = c.requires in record { fits = next_fits _ _ p.0 p.1 p.2 }

pub returns : goal.returns
returns c = let p = c.requires in turned_on _ _ p.0 p.1 p.2 c.if-digits-eq1.false
