use native.Mathlib.Omega.{arith}
use Rattle.descent.proofs.Ways.{stands_low}
use Rattle.trail.specs.Inner.{Follows}
use Rattle.trail.proofs.Keeping.{digits_few, advanced, next_keepable, at_node}
use Rattle.trail.proofs.Path.cross.Goals as goal
use Rattle.trail.proofs.Path.cross.Goals.{At-loop-way}

followed : (c : At-loop-way) → let a = c.args in let p = c.requires in
    Follows a.table.now a.sheet.now p.0 p.1 a.r.0 c.loop-way.self.edges c.loop-way.self.ends c.loop-way.h c.loop-way.way
followed c = let p = c.requires in c.loop-way.invariant.0 p.0 p.1 p.2

pub advance-way-requires : goal.advance-way-requires
advance-way-requires c =
    let F = followed (goal.at.advance-way-requires c).At-loop-way in
    let l = c.loop-way-test.true in
    (F.stands, omega arith, digits_few _ _ _ _ _ _ _ _ _ F (omega arith))

pub keep-requires : goal.keep-requires
keep-requires c =
    let l = c.loop-way-test.true in
    next_keepable _ _ _ _ _ _ _ _ _ (followed (goal.at.keep-requires c).At-loop-way) (omega arith) _ c.advance-way.ensures

pub loop-way-preserved : goal.loop-way-preserved
loop-way-preserved c =
    let l = c.loop-way-test.true in
    let k = c.keep.ensures in
    (λ n root F. advanced _ _ _ _ _ _ _ _ _ (c.loop-way.invariant.0 n root F) (omega arith) _ c.advance-way.ensures _ _ k.0 k.1, omega (arith, c.loop-way.invariant.1))

pub returns : goal.returns
returns c =
    (λ n root F. at_node _ _ _ _ _ _ _ _ _ (c.loop-way.invariant.0 n root F) c.loop-way-test.false, omega (arith, c.loop-way.invariant.1, stands_low _ _ _ _ (followed (goal.at.returns c).At-loop-way).stands))
