use Prim.Native.Nat.{◌+◌, ◌-◌}
use mathlib.Core.Path.{◌≡◌, refl, sym, ◌∙◌}
use native.Mathlib.Omega.{arith}
use Rattle.diagram.specs.Answer.{each}
use Rattle.records.specs.Inner.{check_marks}
use Rattle.records.proofs.Marks.{marks_refused, marks_passed}
use Rattle.records.proofs.names.check_marks.Goals as goal

pub loop-k-init : goal.loop-k-init
unfolding check_marks each
loop-k-init c = (omega arith, refl)

pub returns-then-all_marked : goal.returns-then-all_marked
returns-then-all_marked c = sym (c.all_marked.ensures c.if-all_marked.true)

pub returns-then-marks-k-eq0 : goal.returns-then-marks-k-eq0
returns-then-marks-k-eq0 c =
    marks_refused _ _ _ (omega arith) (omega arith) c.loop-k.invariant.1 c.if-marks-k-eq0.true

pub loop-k-preserved : goal.loop-k-preserved
loop-k-preserved c = (omega arith, marks_passed _ _ (omega arith) c.loop-k.invariant.1 c.if-marks-k-eq0.false)

pub returns-else-marks-k-eq0 : goal.returns-else-marks-k-eq0
returns-else-marks-k-eq0 c =
    let l : c.loop-k.k + 1 - 1 ≡ c.args.last = omega arith in
    sym (marks_passed _ _ (omega arith) c.loop-k.invariant.1 c.if-marks-k-eq0.false) ∙ rw l

pub returns-else-all_marked : goal.returns-else-all_marked
returns-else-all_marked c =
    let l : c.loop-k.k - 1 ≡ c.args.last = omega arith in
    sym c.loop-k.invariant.1 ∙ rw l
