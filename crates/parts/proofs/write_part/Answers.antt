-- `parts::write_part` meets its contract: rule 15, or the part by its extent. Assumes nothing.
use mathlib.Core.Path.{sym, ap, ◌∙◌}
use mathlib.Core.List.{[]}
use native.Mathlib.Omega.{arith}
use Rattle.division.specs.Answers.{spanned_as}
use Rattle.rules.proofs.Turns.{err_on}
use Rattle.parts.proofs.Extents.{none_kept, span_inside, some_kept, span_past, span_opens, span_countable}
use Rattle.parts.proofs.write_part.Goals as goal

pub span_under-requires : goal.span_under-requires
span_under-requires c = c.requires.0

pub write_extent-requires : goal.write_extent-requires
write_extent-requires c =
    let p = c.requires in
    let r = c.span_under.ensures in
    let v = ap spanned_as (c.in_ok-extent.was {u = tt}) in
    (span_countable p.0 r.1 v, span_opens p.0 r.1 v, omega (arith, p.1, c.span_under.auto.sheet), span_inside _ _ _ _ [] _ _ (sym v ∙ r.0))

pub returns : goal.returns
returns c =
    let r = c.span_under.ensures in
    let w = c.write_extent.ensures in
    let k = some_kept _ _ _ _ _ _ _ (sym (ap spanned_as (c.in_ok-extent.was {u = tt})) ∙ r.0) _ _ w.0 in
    (k.0, k.1, w.1 ∙ span_past _ _ _ _ _ r.1)

pub returns-in_err-extent : goal.returns-in_err-extent
returns-in_err-extent c =
    let r = c.span_under.ensures in
    let k = none_kept _ _ _ _ _ _ _ (sym (ap spanned_as (c.in_err-extent.was {u = tt})) ∙ r.0) in
    rw (err_on c.from_residual.ensures.1) (k.0, k.1, span_past _ _ _ _ _ r.1)
