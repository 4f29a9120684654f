-- `checking::test` meets its contract: as every operation begins, then `test_setup` from the root edge. Assumes nothing.
use mathlib.Core.Path.{refl}
use native.Mathlib.Omega.{arith}
use Rattle.checking.specs.Operations.{test_setup, testing}
use Rattle.checking.proofs.Accepting.{handed_on, header_is, few_nodes, root_within, answered}
use Rattle.checking.proofs.Lending.{handed_back, places_left, blanked}
use Rattle.checking.proofs.test.Goals as goal

pub returns-in_err-header : goal.returns-in_err-header
unfolding testing
returns-in_err-header c =
    let B = c.begin.ensures in
    let q = c.in_err-header.was {u = tt} in
    (handed_on B _ _ _ q c.from_residual.ensures.1, handed_back B q)

pub overflow_add-header : goal.overflow_add-header
overflow_add-header c = record { fits = omega (arith, few_nodes c.begin.ensures (c.in_ok-header.was {u = tt})) }

pub blank-requires : goal.blank-requires
blank-requires c = omega (arith, places_left c.begin.ensures (c.in_ok-header.was {u = tt}))

pub test_setup-requires : goal.test_setup-requires
test_setup-requires c =
    let q = c.in_ok-header.was {u = tt} in
    (root_within c.begin.ensures q, (header_is c.begin.ensures q).few_settings)

pub returns : goal.returns
unfolding testing
returns c =
    let B = c.begin.ensures in
    let q = c.in_ok-header.was {u = tt} in
    (answered B q (test_setup _) _ c.test_setup.ensures, blanked B q _ _ refl c.blank.ensures)
