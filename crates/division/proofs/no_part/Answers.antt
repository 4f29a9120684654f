-- `division::no_part` meets its contract. Assumes nothing.
use Rattle.division.proofs.Sharing.{none_zero, none_many, none_index}
use Rattle.division.proofs.no_part.Goals as goal

pub returns-then-k-eq0 : goal.returns-then-k-eq0
returns-then-k-eq0 c = none_zero _ _ c.if-k-eq0.true

pub returns-then-k-gt65535 : goal.returns-then-k-gt65535
returns-then-k-gt65535 c = none_many _ _ c.if-k-eq0.false c.if-k-gt65535.true

pub returns : goal.returns
returns c = none_index _ _ c.if-k-eq0.false c.if-k-gt65535.false
