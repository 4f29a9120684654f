-- `records::check_named` meets its contract: where the records pass, rule 9 by the marks is rule 9. Assumes nothing.
use mathlib.Core.Path.{sym, ap, ◌∙◌}
use native.Mathlib.Omega.{arith}
use Rattle.diagram.specs.Answer.{and_then}
use Rattle.diagram.specs.Rules.{check_diagram}
use Rattle.rules.specs.Refusals.{verdict_as}
use Rattle.rules.proofs.Turns.{err_on}
use Rattle.records.proofs.Marks.{marks_names}
use Rattle.records.proofs.check_named.Goals as goal

pub returns-in_err-check_records : goal.returns-in_err-check_records
unfolding check_diagram and_then
returns-in_err-check_records c =
    rw (err_on c.from_residual.ensures.1, ← c.check_records.ensures.0, c.in_err-check_records.was {u = tt})

pub returns : goal.returns
unfolding check_diagram and_then
returns c =
    let e = c.check_records.ensures in
    let told = ap verdict_as (c.in_ok-check_records.was {u = tt}) in
    rw (sym e.0 ∙ told) (c.check_marks.ensures ∙ marks_names _ _ _ (e.2 told) (omega arith))
