-- `weighing::count_on_under` meets its contract: none where there are fewer settings, otherwise by rows. Assumes nothing.
use mathlib.Core.Path.{sym}
use native.Mathlib.Omega.{arith}
use Rattle.pascal.proofs.Weights.{on_past}
use Rattle.rows.specs.Inner.{Opens}
use Rattle.rows.proofs.Filling.{root_opens}
use Rattle.weighing.proofs.Weighing.{fillable}
use Rattle.weighing.proofs.count_on_under.Goals as goal
use Rattle.weighing.proofs.count_on_under.Goals.{After-fill}

pub returns-then-n-m : goal.returns-then-n-m
returns-then-n-m c = sym (on_past _ _ _ c.if-n-m.true)

pub fill-requires : goal.fill-requires
fill-requires c =
    fillable _ _ _ _ _ _ c.requires.0 c.requires.1 (omega (arith, c.if-n-m.false, c.requires.0.holds.few_settings))

opens : (c : After-fill) → let a = c.args in Opens a.table.now c.fill.new.sheet a.e.value a.n a.m
opens c = let C = c.requires.0 in root_opens _ _ _ _ _ _ C.holds C.inside c.if-n-m.false c.fill.ensures

pub count_under-requires : goal.count_under-requires
count_under-requires c = (_, opens (goal.at.count_under-requires c).After-fill)

pub returns : goal.returns
returns c = c.count_under.ensures _ (opens (goal.at.returns c).After-fill)
