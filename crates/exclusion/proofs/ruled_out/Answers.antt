-- `exclusion::ruled_out` meets its contract: as every operation begins, then `find_setup` from the root edge. Assumes nothing.
use mathlib.Core.Path.{refl}
use native.Mathlib.Omega.{arith}
use Rattle.exclusion.specs.Operations.{find_setup, ruling_out}
use Rattle.checking.proofs.Accepting.{handed_on, table_holds, table_reduced, root_inside, answered}
use Rattle.checking.proofs.Lending.{handed_back, places_left, blanked}
use Rattle.exclusion.proofs.ruled_out.Goals as goal

pub returns-in_err-header : goal.returns-in_err-header
unfolding ruling_out
returns-in_err-header c =
    let B = c.begin.ensures in
    let q = c.in_err-header.was {u = tt} in
    (handed_on B _ _ _ q c.from_residual.ensures.1, handed_back B q)

pub overflow_add-header : goal.overflow_add-header
overflow_add-header c = record { fits = omega (arith, (table_holds c.begin.ensures (c.in_ok-header.was {u = tt})).few) }

pub blank-requires : goal.blank-requires
blank-requires c = omega (arith, places_left c.begin.ensures (c.in_ok-header.was {u = tt}))

pub find_setup-requires : goal.find_setup-requires
find_setup-requires c =
    let B = c.begin.ensures in
    let q = c.in_ok-header.was {u = tt} in
    record { nodes = _; holds = table_holds B q; reduced = table_reduced B q; inside = root_inside B q }

pub returns : goal.returns
unfolding ruling_out
returns c =
    let B = c.begin.ensures in
    let q = c.in_ok-header.was {u = tt} in
    (answered B q (find_setup _) _ c.find_setup.ensures, blanked B q _ _ refl c.blank.ensures)
