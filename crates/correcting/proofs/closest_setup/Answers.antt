-- `correcting::closest_setup` meets its contract: by the answer of the test, and the edge. Assumes nothing.
use mathlib.Core.Path.{◌≡◌, sym, ap, ◌∙◌}
use native.Mathlib.Omega.{arith}
use lib.Dec.{eqb}
use borrow.Author.Rules.{rules}
use borrow.Author.Tests.{eqb-true, eqb-false}
use Rattle.rules.proofs.Turns.{err_on}
use Rattle.checking.specs.Answers.{tested_as}
use Rattle.correcting.proofs.Correcting.{seekable, out_of_range, answers, answers_own, none_permitted}
use Rattle.correcting.proofs.closest_setup.Goals as goal
use Rattle.correcting.proofs.closest_setup.Goals.{After-eq}

pub test_setup-requires : goal.test_setup-requires
test_setup-requires c = let C = c.requires.0 in (record { settings = _; nodes = _; holds = C.holds; inside = C.inside }, C.holds.few_settings)

pub returns-in_err-permitted : goal.returns-in_err-permitted
returns-in_err-permitted c =
    rw (err_on c.from_residual.ensures.1) (out_of_range _ _ _ _ c.test_setup.ensures _ _ (ap tested_as (c.in_err-permitted.was {u = tt})))

pub returns-then-permitted : goal.returns-then-permitted
returns-then-permitted c =
    answers_own _ _ _ _ c.test_setup.ensures _ (ap tested_as (c.in_ok-permitted.was {u = tt})) c.if-permitted.true (omega (arith, c.requires.0.holds.few_settings))

-- the test of the edge: is it `never`?
never : (c : After-eq) → c.eq.result ≡ eqb c.args.e.value 1
never c = search rules

pub returns-then-eq : goal.returns-then-eq
returns-then-eq c =
    none_permitted _ _ _ _ _ c.test_setup.ensures _ (ap tested_as (c.in_ok-permitted.was {u = tt})) (eqb-true _ _ (sym (never (goal.at.returns-then-eq c).After-eq) ∙ c.if-eq.true))

pub nearest_under-setup-requires : goal.nearest_under-setup-requires
nearest_under-setup-requires c =
    let p = c.requires in
    seekable _ _ _ _ _ _ p.0 p.1 _ c.test_setup.ensures _ (ap tested_as (c.in_ok-permitted.was {u = tt})) c.if-permitted.false
    (eqb-false _ _ (sym (never (goal.at.nearest_under-setup-requires c).After-eq) ∙ c.if-eq.false))

pub returns : goal.returns
returns c =
    answers _ _ _ _ c.test_setup.ensures _ (ap tested_as (c.in_ok-permitted.was {u = tt})) (omega (arith, c.requires.0.holds.few_settings)) _ _ c.nearest_under-setup.ensures c.between-distance.ensures
