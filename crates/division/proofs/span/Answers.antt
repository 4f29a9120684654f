-- `division::span` meets its contract: as every operation begins, `span_under` from the root edge, and a blank sheet. Assumes nothing.
use native.Mathlib.Omega.{arith}
use Rattle.diagram.specs.Count.{total}
use Rattle.checking.proofs.Accepting.{handed_on, table_holds, answered}
use Rattle.checking.proofs.Lending.{enough, handed_back, kept_past, places_left, blanked, countable}
use Rattle.division.specs.Operations.{spanning}
use Rattle.division.proofs.Sharing.{span_by}
use Rattle.division.proofs.span.Goals as goal

pub returns-in_err-header : goal.returns-in_err-header
unfolding spanning
returns-in_err-header c =
    let B = c.begin.ensures in
    let q = c.in_err-header.was {u = tt} in
    (handed_on B _ _ _ q c.from_residual.ensures.1, handed_back B q)

pub span_under-spanned-requires : goal.span_under-spanned-requires
span_under-spanned-requires c = countable c.begin.ensures (c.in_ok-header.was {u = tt}) (enough _)

pub overflow_add-header : goal.overflow_add-header
overflow_add-header c =
    record { fits = omega (arith, (table_holds c.begin.ensures (c.in_ok-header.was {u = tt})).few) }

pub blank-requires : goal.blank-requires
blank-requires c =
    omega (arith, places_left c.begin.ensures (c.in_ok-header.was {u = tt}), c.span_under-spanned.auto.sheet)

pub returns : goal.returns
unfolding spanning total
returns c =
    let B = c.begin.ensures in
    let q = c.in_ok-header.was {u = tt} in
    let r = c.span_under-spanned.ensures in
    (answered B q (span_by _ _) _ r.0, blanked B q _ _ (kept_past _ _ _ _ _ r.1) c.blank.ensures)
