-- `walking::branch_of` meets its contract. Assumes nothing.
use Rattle.diagram.proofs.Inside.{inside_tall}
use Rattle.walking.proofs.Walking.{branch_high, branch_low}
use Rattle.walking.proofs.branch_of.Goals as goal

pub overflow_sub-record : goal.overflow_sub-record
overflow_sub-record c = inside_tall _ _ _ _ _ c.requires.0 c.requires.1 c.record_at-record.ensures

pub returns-then-x-record-eq1 : goal.returns-then-x-record-eq1
returns-then-x-record-eq1 c = branch_high _ _ _ _ _ _ c.record_at-record.ensures c.if-x-record-eq1.true

pub returns : goal.returns
returns c = branch_low _ _ _ _ _ _ c.record_at-record.ensures c.if-x-record-eq1.false
