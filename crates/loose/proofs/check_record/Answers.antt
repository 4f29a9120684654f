-- `loose::check_record` meets its contract: rule 4 before rule 6. Assumes nothing.
use mathlib.Core.Path.{◌≡◌, sym, ◌∙◌}
use mathlib.Core.Bool.{cond}
use native.Mathlib.Omega.{arith}
use Rattle.words.specs.Words.{word_at}
use Rattle.diagram.specs.Answer.{refusal, pass}
use Rattle.loose.specs.Rules.{check_loose_record}
use Rattle.loose.proofs.check_record.Goals as goal
use Rattle.loose.proofs.check_record.Goals.{After-has_astray}

pub record_at-record-requires : goal.record_at-record-requires
record_at-record-requires c = let p = c.requires in (p.0, omega (arith, p.1, p.2))

pub returns-then-is_unfit : goal.returns-then-is_unfit
unfolding check_loose_record
returns-then-is_unfit c =
    let r = c.record_at-record.ensures in
    rw (← r.height_is, sym c.is_unfit.ensures ∙ c.if-is_unfit.true)

-- the rules, where the height passes
edges : (c : After-has_astray) → let a = c.args in
    check_loose_record (word_at a.table.now) a.n a.nodes a.k.0 ≡ cond c.has_astray.result (refusal 6 a.k.0) pass
unfolding check_loose_record
edges c =
    let r = c.record_at-record.ensures in
    rw (← r.height_is, ← r.then_is, ← r.else_is, sym c.is_unfit.ensures ∙ c.if-is_unfit.false, ← c.has_astray.ensures)

pub returns-then-has_astray : goal.returns-then-has_astray
returns-then-has_astray c = sym (edges (goal.at.returns-then-has_astray c).After-has_astray ∙ rw c.if-has_astray.true)

pub returns : goal.returns
returns c = sym (edges (goal.at.returns c).After-has_astray ∙ rw c.if-has_astray.false)
