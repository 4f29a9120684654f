-- `combining::combine` meets its contract: both tables are checked, the first one first, and then made into one. Assumes nothing.
use Prim.Native.Nat.{ℕ}
use mathlib.Core.Path.{◌≡◌, sym, ap, ◌∙◌}
use Rattle.std.specs.Prelude.{Ok, Err}
use Rattle.diagram.specs.Answer.{value, refusal}
use Rattle.rules.specs.declared.Refusal.{Refusal}
use Rattle.rules.specs.Refusals.{number_of, place_of}
use Rattle.rules.proofs.Turns.{err_on}
use Rattle.checking.specs.Operations.{checking}
use Rattle.checking.specs.Answers.{checked_as}
use Rattle.combining.specs.declared.Fault.TheVariants.{First, Second}
use Rattle.combining.proofs.Faults.{mapped_ok, mapped_err, mapped_both}
use Rattle.combining.proofs.Promised.{passes_checked, refused_low, first_refused, second_refused, both_pass}
use Rattle.combining.proofs.combine.Goals as goal
use Rattle.combining.proofs.combine.Goals.{In_ok-map_err, In_ok-map_err-2}

pub returns-in_err-map_err : goal.returns-in_err-map_err
returns-in_err-map_err c =
    let k = c.check.ensures in
    let f = mapped_err First _ _ c.map_err.ensures.cases _ (c.in_err-map_err.was {u = tt}) in
    let e = sym k.0 ∙ ap checked_as f.1 in
    rw (err_on c.from_residual.ensures.1, f.2) (first_refused _ _ _ _ _ _ _ _ _ e (refused_low _ _ _ _ e) _ k.1)

-- the first table passes
passes : (c : In_ok-map_err) → let s = c.in_ok-map_err.field-0 in checking c.args.table1.now c.args.sheet1.now ≡ value (s.settings, s.nodes)
passes c = sym c.check.ensures.0 ∙ ap checked_as (mapped_ok First _ _ c.map_err.ensures.cases _ (c.in_ok-map_err.was {u = tt}))

pub returns-in_err-map_err-2 : goal.returns-in_err-map_err-2
returns-in_err-map_err-2 c =
    let k = c.check-2.ensures in
    let f = mapped_err Second _ _ c.map_err-2.ensures.cases _ (c.in_err-map_err-2.was {u = tt}) in
    let e = sym k.0 ∙ ap checked_as f.1 in
    rw (err_on c.from_residual-in_err-map_err-2.ensures.1, f.2)
    (second_refused _ _ _ _ _ _ _ _ (passes (goal.at.returns-in_err-map_err-2 c).In_ok-map_err) _ _ e (refused_low _ _ _ _ e) _ _ c.check.ensures.1 k.1)

-- the second one does
passes-too : (c : In_ok-map_err-2) → let s = c.in_ok-map_err-2.field-0 in checking c.args.table2.now c.args.sheet2.now ≡ value (s.settings, s.nodes)
passes-too c = sym c.check-2.ensures.0 ∙ ap checked_as (mapped_ok Second _ _ c.map_err-2.ensures.cases _ (c.in_ok-map_err-2.was {u = tt}))

pub combine_tables-requires : goal.combine_tables-requires
combine_tables-requires c = (
  passes_checked _ _ _ (passes (goal.at.combine_tables-requires c).In_ok-map_err),
  passes_checked _ _ _ (passes-too (goal.at.combine_tables-requires c).In_ok-map_err-2),
)

pub returns : goal.returns
returns c =
    rw (mapped_both _ _ c.map_err-3.ensures.cases)
    (both_pass _ _ _ _ _ _ _ _ (passes (goal.at.returns c).In_ok-map_err) _ (passes-too (goal.at.returns c).In_ok-map_err-2) _ _ _ _ c.check.ensures.1 c.check-2.ensures.1 _ c.combine_tables.ensures)
