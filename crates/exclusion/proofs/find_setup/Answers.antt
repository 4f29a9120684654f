-- `exclusion::find_setup` meets its contract: by where the setup's way ends. Assumes nothing.
use native.Mathlib.Omega.{arith}
use Rattle.exclusion.proofs.Answering.{out_of_range, ends_permitted, ends_empty, turns, goes_on, sum_fits, ends_ruled}
use Rattle.exclusion.proofs.find_setup.Goals as goal

pub returns-then-n-x : goal.returns-then-n-x
returns-then-n-x c = out_of_range _ _ _ c.requires.holds.few_settings c.if-n-x.true

pub returns-then-way-eq0 : goal.returns-then-way-eq0
returns-then-way-eq0 c = ends_permitted _ _ _ _ _ _ _ c.follow-way.ensures c.requires.holds.few_settings c.if-n-x.false c.if-way-eq0.true

pub returns-then-n-way : goal.returns-then-n-way
returns-then-n-way c =
    ends_empty _ _ _ _ _ _ _ c.follow-way.ensures c.requires.holds.few_settings c.if-n-x.false c.if-way-eq0.false c.if-n-way.true

pub turned-front-requires : goal.turned-front-requires
turned-front-requires c =
    turns _ _ _ _ _ _ _ c.follow-way.ensures c.requires.holds.few_settings c.if-n-x.false c.if-way-eq0.false c.if-n-way.false

pub smallest_under-rest-requires : goal.smallest_under-rest-requires
smallest_under-rest-requires c =
    goes_on _ _ _ _ _ _ _ c.follow-way.ensures c.requires.holds.few_settings c.if-n-x.false c.if-way-eq0.false c.if-n-way.false

pub overflow_add-result : goal.overflow_add-result
overflow_add-result c = record { fits = omega (arith, c.requires.holds.few_settings) }

pub overflow_sub-result : goal.overflow_sub-result
overflow_sub-result c = omega (arith, c.if-n-way.false)

pub overflow_add-result-2 : goal.overflow_add-result-2
overflow_add-result-2 c =
    record {
      fits = sum_fits _ _ _ _ _ _ _ c.follow-way.ensures c.requires.holds.few_settings c.if-n-x.false c.if-way-eq0.false c.if-n-way.false _ _ c.turned-front.ensures c.smallest_under-rest.ensures;
    }

pub returns : goal.returns
returns c =
    ends_ruled _ _ _ _ _ _ _ c.follow-way.ensures c.requires.holds.few_settings c.if-n-x.false c.if-way-eq0.false c.if-n-way.false _ _ c.turned-front.ensures c.smallest_under-rest.ensures
