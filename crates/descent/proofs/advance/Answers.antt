-- `descent::advance` meets its contract. Assumes nothing.
use native.Mathlib.Omega.{arith}
use Rattle.descent.proofs.Ways.{at_top, from_top, crossed_advances}
use Rattle.descent.proofs.advance.Goals as goal

pub returns-then-way-h : goal.returns-then-way-h
returns-then-way-h c =
    let p = c.requires in
    crossed_advances _ _ _ _ p.0 p.1 c.if-way-h.true _ c.cross.ensures

pub branch-table-requires : goal.branch-table-requires
branch-table-requires c =
    let p = c.requires in
    let q = at_top _ _ _ _ p.0 c.if-way-h.false in
    (q.1, omega (arith, q.0), p.2)

pub returns-else-way-h : goal.returns-else-way-h
returns-else-way-h c =
    let p = c.requires in
    from_top _ _ _ _ p.0 c.if-way-h.false _ c.branch-table.ensures
