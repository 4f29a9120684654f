-- `lists::unrank_items` meets its contract: rule by rule. Assumes nothing.
use Prim.Native.Nat.{◌^◌}
use mathlib.Core.Path.{◌≡◌, refl}
use native.Mathlib.Omega.{arith}
use Rattle.words.specs.Words.{word_at}
use Rattle.diagram.specs.Meaning.{under}
use Rattle.diagram.specs.Count.{count_below}
use Rattle.counting.specs.Inner.{Opens}
use Rattle.counting.proofs.Filling.{root_opens}
use Rattle.checking.proofs.Lending.{filled_past}
use Rattle.rules.proofs.Turns.{err_on}
use Rattle.lists.proofs.Ranks.{all_fine}
use Rattle.lists.proofs.Answering.{room_short, passed_rising, falls_refused, range_refused, list_served}
use Rattle.lists.proofs.unrank_items.Goals as goal
use Rattle.lists.proofs.unrank_items.Goals.{After-count_under-c, After-fill}

pub returns-then-setups-m : goal.returns-then-setups-m
returns-then-setups-m c = let r = room_short _ _ _ _ c.if-setups-m.true in (r.0, r.1, refl)

pub returns-in_err-check_rising : goal.returns-in_err-check_rising
returns-in_err-check_rising c =
    let r = falls_refused _ _ c.check_rising.ensures _ _ _ c.if-setups-m.false _ (c.in_err-check_rising.was {u = tt}) in
    rw (err_on c.from_residual.ensures.1) (r.0, r.1, refl)

pub fill-requires : goal.fill-requires
fill-requires c = let C = c.requires in (C.holds, C.reduced, C.room)

opens : (c : After-fill) → let a = c.args in Opens a.table.now c.fill.new.sheet a.e.value a.n
opens c = (root_opens _ _ _ _ _ _ c.requires c.fill.ensures).1

pub count_under-c-requires : goal.count_under-c-requires
count_under-c-requires c = (_, opens (goal.at.count_under-c-requires c).After-fill)

counted : (c : After-count_under-c) → let a = c.args in c.count_under-c.result ≡ count_below (under (word_at a.table.now) a.e.value) (2 ^ a.n)
counted c = c.count_under-c.ensures _ (opens (goal.at.After-count_under-c c).After-fill)

pub count_below-fine-requires : goal.count_below-fine-requires
count_below-fine-requires c =
    (omega arith, passed_rising _ _ c.check_rising.ensures (c.in_ok-check_rising.was {u = tt}))

pub returns-then-fine-m : goal.returns-then-fine-m
returns-then-fine-m c =
    let r = range_refused _ _ c.check_rising.ensures _ _ _ c.if-setups-m.false (c.in_ok-check_rising.was {u = tt}) _ _ (counted (goal.at.returns-then-fine-m c).After-count_under-c) c.count_below-fine.ensures c.if-fine-m.true in
    (r.0, r.1, filled_past _ _ _ _ c.fill.ensures)

pub write_setups-requires : goal.write_setups-requires
write_setups-requires c = (
  opens (goal.at.write_setups-requires c).After-fill,
  omega arith,
  omega (arith, c.if-setups-m.false),
  passed_rising _ _ c.check_rising.ensures (c.in_ok-check_rising.was {u = tt}),
  all_fine _ _ _ _ _ _ (counted (goal.at.write_setups-requires c).After-count_under-c) c.count_below-fine.ensures c.if-fine-m.false,
)

pub returns : goal.returns
returns c =
    let r = list_served _ _ c.check_rising.ensures _ _ _ c.if-setups-m.false (c.in_ok-check_rising.was {u = tt}) _ _
    (counted (goal.at.returns c).After-count_under-c) c.count_below-fine.ensures c.if-fine-m.false _ c.write_setups.ensures in
    (r.0, r.1, filled_past _ _ _ _ c.fill.ensures)
