-- `checking::check` meets its contract: as every operation begins, and a blank sheet. Assumes nothing.
use mathlib.Core.Path.{refl, sym}
use native.Mathlib.Omega.{arith}
use Rattle.rules.proofs.Turns.{err_on}
use Rattle.checking.proofs.Accepting.{checking_is, few_nodes, refused_as}
use Rattle.checking.proofs.Lending.{handed_back, places_left, blanked}
use Rattle.checking.proofs.check.Goals as goal

pub returns-in_err-header : goal.returns-in_err-header
returns-in_err-header c =
    let B = c.begin.ensures in
    let q = c.in_err-header.was {u = tt} in
    (refused_as B _ _ q c.from_residual.ensures.1, handed_back B q)

pub overflow_add-nodes : goal.overflow_add-nodes
overflow_add-nodes c = record { fits = omega (arith, few_nodes c.begin.ensures (c.in_ok-header.was {u = tt})) }

pub blank-requires : goal.blank-requires
blank-requires c = omega (arith, places_left c.begin.ensures (c.in_ok-header.was {u = tt}))

pub returns : goal.returns
returns c =
    let B = c.begin.ensures in
    let q = c.in_ok-header.was {u = tt} in
    (sym (checking_is B q), blanked B q _ _ refl c.blank.ensures)
