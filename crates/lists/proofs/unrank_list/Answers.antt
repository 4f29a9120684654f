-- `lists::unrank_list` meets its contract: as every operation begins, `unrank_items` from the root edge, and a blank sheet. Assumes nothing.
use mathlib.Core.Path.{ap}
use native.Mathlib.Omega.{arith}
use Rattle.checking.proofs.Accepting.{handed_on, header_is, table_holds, answered}
use Rattle.checking.proofs.Lending.{enough, handed_back, places_left, blanked, countable}
use Rattle.rules.proofs.Turns.{err_on}
use Rattle.lists.specs.Answers.{listed_as}
use Rattle.lists.specs.Operations.{unrank_items, unranking_list}
use Rattle.lists.proofs.Answering.{setups_kept, setups_left}
use Rattle.lists.proofs.unrank_list.Goals as goal

pub returns-in_err-header : goal.returns-in_err-header
unfolding unranking_list
returns-in_err-header c =
    let B = c.begin.ensures in
    let q = c.in_err-header.was {u = tt} in
    let h = c.from_residual.ensures.1 in
    let a = handed_on B _ _ _ q h in
    (a, handed_back B q, setups_kept _ _ _ _ _ _ _ (ap listed_as (err_on h)) a)

pub unrank_items-listed-requires : goal.unrank_items-listed-requires
unrank_items-listed-requires c = countable c.begin.ensures (c.in_ok-header.was {u = tt}) (enough _)

pub overflow_add-header : goal.overflow_add-header
overflow_add-header c =
    record { fits = omega (arith, (table_holds c.begin.ensures (c.in_ok-header.was {u = tt})).few) }

pub blank-requires : goal.blank-requires
blank-requires c =
    omega (arith, places_left c.begin.ensures (c.in_ok-header.was {u = tt}), c.unrank_items-listed.auto.sheet)

pub returns : goal.returns
unfolding unranking_list
returns c =
    let B = c.begin.ensures in
    let q = c.in_ok-header.was {u = tt} in
    let r = c.unrank_items-listed.ensures in
    let i = answered B q (unrank_items _ _) _ r.0 in
    (i, blanked B q _ _ r.2 c.blank.ensures, setups_left _ _ _ _ _ _ _ _ i (header_is B q) _ r.1)
