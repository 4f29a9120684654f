-- `ranking::unrank` meets its contract: as every operation begins, `unrank_setup` from the root edge, and a blank sheet. Assumes nothing.
use native.Mathlib.Omega.{arith}
use Rattle.checking.proofs.Accepting.{handed_on, table_holds, answered}
use Rattle.checking.proofs.Lending.{enough, handed_back, places_left, blanked, countable}
use Rattle.ranking.specs.Operations.{unrank_setup, unranking}
use Rattle.ranking.proofs.unrank.Goals as goal

pub returns-in_err-header : goal.returns-in_err-header
unfolding unranking
returns-in_err-header c =
    let B = c.begin.ensures in
    let q = c.in_err-header.was {u = tt} in
    (handed_on B _ _ _ q c.from_residual.ensures.1, handed_back B q)

pub unrank_setup-unranked-requires : goal.unrank_setup-unranked-requires
unrank_setup-unranked-requires c = countable c.begin.ensures (c.in_ok-header.was {u = tt}) (enough _)

pub overflow_add-nodes : goal.overflow_add-nodes
overflow_add-nodes c =
    record { fits = omega (arith, (table_holds c.begin.ensures (c.in_ok-header.was {u = tt})).few) }

pub blank-requires : goal.blank-requires
blank-requires c =
    omega (arith, places_left c.begin.ensures (c.in_ok-header.was {u = tt}), c.unrank_setup-unranked.auto.sheet)

pub returns : goal.returns
unfolding unranking
returns c =
    let B = c.begin.ensures in
    let q = c.in_ok-header.was {u = tt} in
    let r = c.unrank_setup-unranked.ensures in
    (answered B q (unrank_setup _) _ r.0, blanked B q _ _ r.1 c.blank.ensures)
