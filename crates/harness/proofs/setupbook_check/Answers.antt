-- `harness::setupbook_check` meets its contract. Assumes nothing.
use mathlib.Core.Path.{sym, ap, ◌∙◌}
use native.Mathlib.Omega.{arith}
use Rattle.checking.specs.Answers.{checked_as}
use Rattle.rules.proofs.Packing.{packed_value, packed_refusal}
use Rattle.checking.proofs.Bounds.{checking_place, shape_fits}
use Rattle.harness.proofs.setupbook_check.Goals as goal

pub overflow_mul-result : goal.overflow_mul-result
overflow_mul-result c =
    let e = c.check-checked.ensures in
    let f = shape_fits _ _ _ _ (λ i. omega (arith, c.type_inv.table i)) (sym (ap checked_as c.in-Ok.is) ∙ e.0) in
    omega (arith, f.0)

pub overflow_add-result : goal.overflow_add-result
overflow_add-result c =
    let e = c.check-checked.ensures in
    let f = shape_fits _ _ _ _ (λ i. omega (arith, c.type_inv.table i)) (sym (ap checked_as c.in-Ok.is) ∙ e.0) in
    omega (arith, f.0, f.1)

pub pack_refusal-requires : goal.pack_refusal-requires
pack_refusal-requires c = checking_place _ _ _ _ _ (sym c.check-checked.ensures.0 ∙ ap checked_as c.in-Err.is)

pub returns-in-Ok : goal.returns-in-Ok
returns-in-Ok c = let e = c.check-checked.ensures in (packed_value _ _ _ e.0 _ (ap checked_as c.in-Ok.is), e.1)

pub returns-in-Err : goal.returns-in-Err
returns-in-Err c = let e = c.check-checked.ensures in (packed_refusal _ _ _ e.0 _ _ _ (ap checked_as c.in-Err.is) c.pack_refusal.ensures, e.1)
