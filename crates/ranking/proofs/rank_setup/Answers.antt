-- `ranking::rank_setup` meets its contract: by the answer of the test. Assumes nothing.
use mathlib.Core.Path.{refl, ap}
use Rattle.counting.proofs.Filling.{root_opens}
use Rattle.checking.specs.Answers.{tested_as}
use Rattle.checking.proofs.Lending.{filled_past}
use Rattle.rules.proofs.Turns.{err_on}
use Rattle.ranking.proofs.Answering.{test_refused, unpermitted, ranked_at}
use Rattle.ranking.proofs.rank_setup.Goals as goal

pub test_setup-requires : goal.test_setup-requires
test_setup-requires c = let C = c.requires in (record { settings = _; nodes = _; holds = C.holds; inside = C.inside }, C.holds.few_settings)

pub fill-requires : goal.fill-requires
fill-requires c = let C = c.requires in (C.holds, C.reduced, C.room)

pub rank_under-requires : goal.rank_under-requires
rank_under-requires c =
    (root_opens _ _ _ _ _ _ c.requires c.fill.ensures).1.filled

pub returns-then-permitted : goal.returns-then-permitted
returns-then-permitted c = (
  ranked_at _ _ _ _ c.test_setup.ensures _ (ap tested_as (c.in_ok-permitted.was {u = tt})) c.if-permitted.true _ c.rank_under.ensures,
  filled_past _ _ _ _ c.fill.ensures,
)

pub returns : goal.returns
returns c =
    (unpermitted _ _ _ _ c.test_setup.ensures _ (ap tested_as (c.in_ok-permitted.was {u = tt})) c.if-permitted.false, refl)

pub returns-in_err-permitted : goal.returns-in_err-permitted
returns-in_err-permitted c =
    rw (err_on c.from_residual.ensures.1) (test_refused _ _ _ _ c.test_setup.ensures _ _ (ap tested_as (c.in_err-permitted.was {u = tt})), refl)
