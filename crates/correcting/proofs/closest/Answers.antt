-- `correcting::closest` meets its contract: as every operation begins, `closest_setup` from the root edge, and a blank sheet. Assumes nothing.
use Prim.Native.Nat.{◌*◌, ◌≤◌}
use mathlib.Core.Path.{◌≡◌, sym}
use native.Mathlib.Omega.{arith}
use lib.ListN.{length, take}
use Rattle.checking.specs.Inner.{Begins}
use Rattle.checking.proofs.Accepting.{handed_on, answered}
use Rattle.checking.proofs.Lending.{begins_for, handed_back, front_sizes, front_long, front_countable, front_back, front_blanked}
use Rattle.correcting.specs.Operations.{needed, closest_setup, correcting}
use Rattle.correcting.proofs.closest.Goals as goal
use Rattle.correcting.proofs.closest.Goals.{After-begin_with, In_ok-header}

-- how the operation began, with its places said as the paper has them
begins : (c : After-begin_with) → let a = c.args in Begins needed a.table.now a.sheet.now c.begin_with.new.sheet c.begin_with.result
begins c = begins_for needed (λ N. omega arith) c.begin_with.ensures

pub returns-in_err-header : goal.returns-in_err-header
unfolding correcting
returns-in_err-header c =
    let B = begins (goal.at.returns-in_err-header c).After-begin_with in
    let q = c.in_err-header.was {u = tt} in
    (handed_on B _ _ _ q c.from_residual.ensures.1, handed_back B q)

-- the table has few nodes, and the sheet the places that are needed
sizes : (c : In_ok-header) → let N = c.in_ok-header.header.nodes in (N ≤ 65535) × (8 * needed N ≤ length c.begin_with.new.sheet)
sizes c = front_sizes (begins (goal.at.In_ok-header c).After-begin_with) (c.in_ok-header.was {u = tt})

pub overflow_add-places : goal.overflow_add-places
overflow_add-places c = record { fits = omega (arith, sizes (goal.at.overflow_add-places c).In_ok-header) }

pub overflow_mul-places : goal.overflow_mul-places
overflow_mul-places c = record { fits = omega (arith, sizes (goal.at.overflow_mul-places c).In_ok-header) }

pub overflow_mul-end : goal.overflow_mul-end
overflow_mul-end c = record { fits = omega (arith, sizes (goal.at.overflow_mul-end c).In_ok-header) }

pub slice_bounds-closest_setup-end : goal.slice_bounds-closest_setup-end
slice_bounds-closest_setup-end c = (sizes (goal.at.slice_bounds-closest_setup-end c).In_ok-header).1

-- the places lent
lent_long : (c : In_ok-header) → let m = 8 * needed c.in_ok-header.header.nodes in length (take m c.begin_with.new.sheet) ≡ m
lent_long c = front_long (begins (goal.at.In_ok-header c).After-begin_with) (c.in_ok-header.was {u = tt})

pub slice_bounds-closest_setup-end-2 : goal.slice_bounds-closest_setup-end-2
slice_bounds-closest_setup-end-2 c = sym (lent_long (goal.at.slice_bounds-closest_setup-end-2 c).In_ok-header)

pub closest_setup-found-requires : goal.closest_setup-found-requires
closest_setup-found-requires c =
    let l = lent_long (goal.at.closest_setup-found-requires c).In_ok-header in
    (front_countable (begins (goal.at.closest_setup-found-requires c).After-begin_with) (c.in_ok-header.was {u = tt}) (omega arith), omega arith)

pub blank-requires : goal.blank-requires
blank-requires c =
    let w = c.closest_setup-found in
    front_back (begins (goal.at.blank-requires c).After-begin_with) (c.in_ok-header.was {u = tt}) w.new.sheet w.auto.sheet

pub returns : goal.returns
unfolding correcting
returns c =
    let B = begins (goal.at.returns c).After-begin_with in
    let q = c.in_ok-header.was {u = tt} in
    let w = c.closest_setup-found in (
      answered B q (closest_setup _) _ w.ensures,
      front_blanked B q w.new.sheet w.auto.sheet _ c.blank.ensures,
    )
