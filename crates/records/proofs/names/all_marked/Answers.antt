use Prim.Native.Nat.{ℕ, ◌+◌, ◌-◌}
use mathlib.Core.Path.{◌∙◌, ◌≡◌, refl, sym, subst}
use mathlib.Core.Bool.{true, true≢false}
use native.Mathlib.Omega.{arith}
use Rattle.diagram.specs.Answer.{pass, each}
use Rattle.records.specs.Inner.{check_marks}
use Rattle.records.proofs.Marks.{marks_passed}
use Rattle.records.proofs.names.all_marked.Goals as goal
use Rattle.records.proofs.names.all_marked.Goals.{Joined-marks-k-eq0, then-marks-k-eq0, else-marks-k-eq0}

pub loop-k-init : goal.loop-k-init
unfolding check_marks each
loop-k-init c = (omega arith, λ e. refl)

-- one node more, if `all` still says so
passed : (c : Joined-marks-k-eq0) → c.if-marks-k-eq0.all ≡ true → check_marks c.args.marks.now (c.loop-k.k + 1 - 1) ≡ pass
passed c =
    elim c.if-marks-k-eq0.branch [
      | then-marks-k-eq0 w ↦ λ e. absurd (true≢false (sym e ∙ w.all-is))
      | else-marks-k-eq0 w ↦ λ e. marks_passed _ _ (omega arith) (c.loop-k.invariant.1 (sym w.all-is ∙ e)) w.if-marks-k-eq0.false
    ]

pub loop-k-preserved : goal.loop-k-preserved
loop-k-preserved c = (omega arith, passed (goal.at.loop-k-preserved c).Joined-marks-k-eq0)

pub returns : goal.returns
returns c e =
    let l : c.loop-k.k - 1 ≡ c.args.last = omega (arith, c.loop-k.invariant.0) in
    subst (λ (m : ℕ). check_marks c.args.marks.now m ≡ pass) l (c.loop-k.invariant.1 e)

pub returns-after-marks-k-eq0 : goal.returns-after-marks-k-eq0
returns-after-marks-k-eq0 c e =
    let l : c.loop-k.k + 1 - 1 ≡ c.args.last = omega arith in
    subst (λ (m : ℕ). check_marks c.args.marks.now m ≡ pass) l (passed (goal.at.returns-after-marks-k-eq0 c).Joined-marks-k-eq0 e)
