use Rattle.trail.specs.Inner.{Follows}
use Rattle.trail.proofs.Keeping.{digits_few, advanced, next_keepable, reached}
use Rattle.trail.proofs.Path.follow.Goals as goal
use Rattle.trail.proofs.Path.follow.Goals.{At-loop-way}

followed : (c : At-loop-way) → let a = c.args in let p = c.requires in
    Follows a.table.now a.sheet.now p.0 p.1 a.r.0 c.loop-way.self.edges c.loop-way.self.ends c.loop-way.way.height c.loop-way.way
followed c = let p = c.requires in c.loop-way.invariant p.0 p.1 (c.cross-way.ensures.0 p.0 p.1 p.2)

pub advance-way-requires : goal.advance-way-requires
advance-way-requires c =
    let F = followed (goal.at.advance-way-requires c).At-loop-way in
    let l = c.loop-way-test.true in
    (F.stands, l, digits_few _ _ _ _ _ _ _ _ _ F l)

pub keep-requires : goal.keep-requires
keep-requires c =
    next_keepable _ _ _ _ _ _ _ _ _ (followed (goal.at.keep-requires c).At-loop-way) c.loop-way-test.true _ c.advance-way.ensures

pub cross-way-requires-in-loop-way : goal.cross-way-requires-in-loop-way
cross-way-requires-in-loop-way c =
    let k = c.keep.ensures in
    (_, _, advanced _ _ _ _ _ _ _ _ _ (followed (goal.at.cross-way-requires-in-loop-way c).At-loop-way) c.loop-way-test.true _ c.advance-way.ensures _ _ k.0 k.1)

pub loop-way-preserved : goal.loop-way-preserved
loop-way-preserved c n root F =
    let k = c.keep.ensures in
    c.cross-way-in-loop-way.ensures.0 n root (advanced _ _ _ _ _ _ _ _ _ (c.loop-way.invariant n root F) c.loop-way-test.true _ c.advance-way.ensures _ _ k.0 k.1)

pub returns : goal.returns
returns c n root F =
    reached _ _ _ _ _ _ _ _ _ (c.loop-way.invariant n root (c.cross-way.ensures.0 n root F)) c.loop-way-test.false
