-- `marking::mark_below` meets its contract. Assumes nothing.
use native.Mathlib.Omega.{arith}
use Rattle.marking.proofs.Marking.{names_inside, marked_below}
use Rattle.marking.proofs.mark_below.Goals as goal

pub mark_two-requires : goal.mark_two-requires
mark_two-requires c =
    let p = c.requires in
    let i = names_inside _ _ _ _ _ _ _ _ _ _ c.word_in.ensures c.from-record.ensures c.node.ensures c.node-2.ensures p.1 p.2 p.3 in
    (omega (arith, i.0, p.0), omega (arith, i.1, p.0))

pub returns : goal.returns
returns c =
    marked_below _ 0 0 _ _ _ _ _ _ _ c.word_in.ensures c.from-record.ensures c.node.ensures c.node-2.ensures
    _ _ _ c.word_at.ensures c.if-word_at-eq0.false c.mark_two.ensures
