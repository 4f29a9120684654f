-- `smaller::step_from` meets its contract. Assumes nothing.
use Rattle.diagram.proofs.Inside.{within_room}
use Rattle.smaller.proofs.Stepping.{tall, low_opens, step_low, step_high}
use Rattle.smaller.proofs.step_from.Goals as goal

pub record_at-record-requires : goal.record_at-record-requires
record_at-record-requires c = let p = c.requires in (p.0, within_room _ _ p.1.within)

pub overflow_sub-h : goal.overflow_sub-h
overflow_sub-h c = let p = c.requires in tall _ _ _ _ _ _ _ p.0 p.1 p.2 c.record_at-record.ensures

pub returns-then-y-half : goal.returns-then-y-half
returns-then-y-half c = let p = c.requires in step_low _ _ _ _ _ _ _ p.0 p.1 p.2 c.record_at-record.ensures c.if-y-half.true

pub count_under-requires : goal.count_under-requires
count_under-requires c = let p = c.requires in (_, low_opens _ _ _ _ _ _ _ p.0 p.1 p.2 c.record_at-record.ensures)

pub returns-else-y-half : goal.returns-else-y-half
returns-else-y-half c =
    let p = c.requires in
    let r = c.record_at-record.ensures in
    step_high _ _ _ _ _ _ _ p.0 p.1 p.2 r c.if-y-half.false _ (c.count_under.ensures _ (low_opens _ _ _ _ _ _ _ p.0 p.1 p.2 r))
