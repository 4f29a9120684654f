-- `ranking::rank` meets its contract: as every operation begins, `rank_setup` from the root edge, and a blank sheet. Assumes nothing.
use native.Mathlib.Omega.{arith}
use Rattle.checking.proofs.Accepting.{handed_on, table_holds, answered}
use Rattle.checking.proofs.Lending.{enough, handed_back, places_left, blanked, countable}
use Rattle.ranking.specs.Operations.{rank_setup, ranking}
use Rattle.ranking.proofs.rank.Goals as goal

pub returns-in_err-header : goal.returns-in_err-header
unfolding ranking
returns-in_err-header c =
    let B = c.begin.ensures in
    let q = c.in_err-header.was {u = tt} in
    (handed_on B _ _ _ q c.from_residual.ensures.1, handed_back B q)

pub rank_setup-ranked-requires : goal.rank_setup-ranked-requires
rank_setup-ranked-requires c = countable c.begin.ensures (c.in_ok-header.was {u = tt}) (enough _)

pub overflow_add-header : goal.overflow_add-header
overflow_add-header c =
    record { fits = omega (arith, (table_holds c.begin.ensures (c.in_ok-header.was {u = tt})).few) }

pub blank-requires : goal.blank-requires
blank-requires c =
    omega (arith, places_left c.begin.ensures (c.in_ok-header.was {u = tt}), c.rank_setup-ranked.auto.sheet)

pub returns : goal.returns
unfolding ranking
returns c =
    let B = c.begin.ensures in
    let q = c.in_ok-header.was {u = tt} in
    let r = c.rank_setup-ranked.ensures in
    (answered B q (rank_setup _) _ r.0, blanked B q _ _ r.1 c.blank.ensures)
