-- `checking::count` meets its contract: the root edge's count is the total, and the counts stay. Assumes nothing.
use Prim.Native.Nat.{◌^◌}
use mathlib.Core.Path.{ap}
use Rattle.diagram.specs.Count.{count_below, total}
use Rattle.diagram.specs.Answer.{value}
use Rattle.counting.specs.Inner.{Countable}
use Rattle.counting.proofs.Filling.{root_opens}
use Rattle.checking.specs.Operations.{counting}
use Rattle.checking.proofs.Accepting.{handed_on, answered}
use Rattle.checking.proofs.Lending.{enough, countable, counts_refused, counts_left}
use Rattle.checking.proofs.count.Goals as goal
use Rattle.checking.proofs.count.Goals.{In_ok-header}

pub returns-in_err-header : goal.returns-in_err-header
unfolding counting
returns-in_err-header c =
    let B = c.begin.ensures in
    let q = c.in_err-header.was {u = tt} in
    (handed_on B _ _ _ q c.from_residual.ensures.1, counts_refused B q)

root : (c : In_ok-header) → let h = c.in_ok-header.header in Countable c.args.table.now c.begin.new.sheet h.settings h.nodes h.root.value
root c = countable c.begin.ensures (c.in_ok-header.was {u = tt}) (enough _)

pub fill-requires : goal.fill-requires
fill-requires c = let C = root (goal.at.fill-requires c).In_ok-header in (C.holds, C.reduced, C.room)

pub count_under-c-requires : goal.count_under-c-requires
count_under-c-requires c =
    (_, (root_opens _ _ _ _ _ _ (root (goal.at.count_under-c-requires c).In_ok-header) c.fill.ensures).1)

pub settle-requires : goal.settle-requires
settle-requires c =
    (root_opens _ _ _ _ _ _ (root (goal.at.settle-requires c).In_ok-header) c.fill.ensures).0

pub returns : goal.returns
unfolding counting total
returns c =
    let B = c.begin.ensures in
    let q = c.in_ok-header.was {u = tt} in
    let O = (root_opens _ _ _ _ _ _ (root (goal.at.returns c).In_ok-header) c.fill.ensures).1 in
    (answered B q (λ n P. value (count_below P (2 ^ n))) _ (ap value (c.count_under-c.ensures _ O)), counts_left B q _ _ c.fill.ensures c.settle.ensures)
