use mathlib.Core.Path.{◌≡◌, refl, sym, ◌∙◌}
use native.Mathlib.Omega.{arith}
use Rattle.diagram.specs.Answer.{each}
use Rattle.rules.proofs.Turns.{err_on, turn_refused, turn_passed}
use Rattle.loose.specs.Rules.{check_loose_record, check_loose_records}
use Rattle.loose.proofs.check_records.Goals as goal

pub loop-k-init : goal.loop-k-init
unfolding each
loop-k-init c = refl

pub check_record-requires : goal.check_record-requires
check_record-requires c = (omega arith, omega (arith, c.loop-k-test.true), c.requires)

pub loop-k-preserved : goal.loop-k-preserved
loop-k-preserved c =
    turn_passed (check_loose_record _ _ _) _ _ c.loop-k.invariant c.check_record.ensures (c.in_ok-check_record.was {u = tt})

pub returns-in_err-check_record : goal.returns-in_err-check_record
unfolding check_loose_records
returns-in_err-check_record c =
    let t = turn_refused (check_loose_record _ _ _) _ _ c.loop-k.invariant c.check_record.ensures _ _ c.loop-k-test.true (c.in_err-check_record.was {u = tt}) in
    rw (err_on c.from_residual.ensures.1 ∙ sym (c.in_err-check_record.was {u = tt})) t.0

pub returns : goal.returns
unfolding check_loose_records
returns c =
    let e : c.loop-k.k ≡ c.args.nodes = omega (arith, c.loop-k.auto.k-end) in
    sym c.loop-k.invariant ∙ rw e
