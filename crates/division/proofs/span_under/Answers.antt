-- `division::span_under` meets its contract: rule 15, then the part by the count. Assumes nothing.
use mathlib.Core.Path.{refl, sym, ◌∙◌}
use Rattle.counting.specs.Inner.{Opens}
use Rattle.counting.proofs.Filling.{root_opens}
use Rattle.checking.specs.Operations.{sheet_by}
use Rattle.division.proofs.Sharing.{no_such, span_is}
use Rattle.division.proofs.span_under.Goals as goal
use Rattle.division.proofs.span_under.Goals.{After-fill}

pub returns-then-no_part : goal.returns-then-no_part
unfolding sheet_by
returns-then-no_part c = (no_such _ _ _ _ c.no_part.ensures c.if-no_part.true, refl)

pub fill-requires : goal.fill-requires
fill-requires c = let C = c.requires in (C.holds, C.reduced, C.room)

opens : (c : After-fill) → let a = c.args in Opens a.table.now c.fill.new.sheet a.e.value a.n
opens c = (root_opens _ _ _ _ _ _ c.requires c.fill.ensures).1

pub count_under-c-requires : goal.count_under-c-requires
count_under-c-requires c = (_, opens (goal.at.count_under-c-requires c).After-fill)

pub extent_of-requires : goal.extent_of-requires
extent_of-requires c = sym c.no_part.ensures ∙ c.if-no_part.false

pub returns : goal.returns
unfolding sheet_by
returns c =
    let e = c.extent_of.ensures in
    (span_is _ _ _ _ (c.count_under-c.ensures _ (opens (goal.at.returns c).After-fill)) _ _ e.0 e.1 (sym c.no_part.ensures ∙ c.if-no_part.false), c.fill.ensures)
