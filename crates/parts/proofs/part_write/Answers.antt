-- `parts::part_write` meets its contract: as every operation begins, `write_part` from the root edge, and a blank sheet. Assumes nothing.
use native.Mathlib.Omega.{arith}
use Rattle.checking.proofs.Accepting.{table_holds}
use Rattle.checking.proofs.Lending.{begins_for, places_left, countable}
use Rattle.parts.proofs.Extents.{some_needed, check_refused, part_promised}
use Rattle.parts.specs.Operations.{needed}
use Rattle.parts.proofs.part_write.Goals as goal

pub returns-in_err-header : goal.returns-in_err-header
returns-in_err-header c =
    check_refused (begins_for needed (λ N. omega arith) c.begin_with.ensures) _ _ _ _ (c.in_err-header.was {u = tt}) c.from_residual.ensures.1

pub write_part-written-requires : goal.write_part-written-requires
write_part-written-requires c =
    let B = begins_for needed (λ N. omega arith) c.begin_with.ensures in
    let q = c.in_ok-header.was {u = tt} in
    (countable B q (some_needed _), places_left B q)

pub overflow_add-header : goal.overflow_add-header
overflow_add-header c =
    record { fits = omega (arith, (table_holds c.begin_with.ensures (c.in_ok-header.was {u = tt})).few) }

pub blank-requires : goal.blank-requires
blank-requires c =
    omega (arith, places_left c.begin_with.ensures (c.in_ok-header.was {u = tt}), c.write_part-written.auto.sheet)

pub returns : goal.returns
returns c =
    let B = begins_for needed (λ N. omega arith) c.begin_with.ensures in
    part_promised B _ _ _ (c.in_ok-header.was {u = tt}) _ _ _ _ c.write_part-written.ensures c.blank.ensures
