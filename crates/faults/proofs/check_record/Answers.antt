-- `faults::check_record` meets its contract: rules 4 to 8 in their order. Assumes nothing.
use Prim.Native.Nat.{◌%◌}
use mathlib.Core.Path.{◌≡◌, refl, sym, ◌∙◌}
use mathlib.Core.Bool.{cond}
use lib.Dec.{eqb, leb}
use borrow.Author.Tests.{eq-eqb, ne_eqb, le-leb, lt-leb}
use borrow.Author.Rules.{rules}
use Rattle.words.specs.Words.{word_at}
use Rattle.diagram.specs.Answer.{refusal, pass}
use Rattle.diagram.specs.Rules.{check_record}
use Rattle.faults.proofs.RecordRules.{fields_of, by_tests}
use Rattle.faults.proofs.check_record.Goals as goal
use Rattle.faults.proofs.check_record.Goals.{After-has_misled-misled}

pub has_misled-misled-requires : goal.has_misled-misled-requires
has_misled-misled-requires c =
    let p = c.requires in
    ((fields_of _ c.args.n _ _ _ _ _ _ p.0 p.2 p.3 c.from-record.ensures).height_is, p.1)

-- the rules in their order, by what the tests of the height and of the edges have given
by_rules : (c : After-has_misled-misled) → let a = c.args in let k = a.k.0 in let r = c.from-record.result in
    check_record (word_at a.table.now) a.n k
    ≡ cond c.is_unfit-unfit.result (refusal 4 k)
    (cond c.has_misled-misled.result (refusal 6 k)
    (cond (leb a.word a.before) (refusal 5 k)
    (cond (eqb (r.high.value % 2) 1) (refusal 7 k) (cond (eqb r.high.value r.low.value) (refusal 8 k) pass))))
by_rules c =
    let p = c.requires in
    by_tests _ _ _ _ _ _ _ _ p.0 p.2 p.3 c.from-record.ensures _ _ _ c.is_unfit-unfit.ensures c.has_misled-misled.ensures refl

pub returns-then-unfit : goal.returns-then-unfit
returns-then-unfit c = sym (by_rules (goal.at.returns-then-unfit c).After-has_misled-misled ∙ rw c.if-unfit.true)

pub returns-then-misled : goal.returns-then-misled
returns-then-misled c = sym (by_rules (goal.at.returns-then-misled c).After-has_misled-misled ∙ rw (c.if-unfit.false, c.if-misled.true))

pub returns-then-falls : goal.returns-then-falls
returns-then-falls c = sym (by_rules (goal.at.returns-then-falls c).After-has_misled-misled ∙ rw (c.if-unfit.false, c.if-misled.false, le-leb _ _ c.if-falls.true))

pub returns-then-flagged : goal.returns-then-flagged
returns-then-flagged c =
    sym (by_rules (goal.at.returns-then-flagged c).After-has_misled-misled ∙ rw (c.if-unfit.false, c.if-misled.false, lt-leb _ _ c.if-falls.false, sym c.flagged.ensures ∙ c.if-flagged.true))

pub returns-then-eq : goal.returns-then-eq
returns-then-eq c =
    let r = c.from-record.result in
    let same : c.eq.result ≡ eqb r.high.value r.low.value = search rules in
    sym (by_rules (goal.at.returns-then-eq c).After-has_misled-misled ∙ rw (c.if-unfit.false, c.if-misled.false, lt-leb _ _ c.if-falls.false, sym c.flagged.ensures ∙ c.if-flagged.false, sym same ∙ c.if-eq.true))

pub returns : goal.returns
returns c =
    let r = c.from-record.result in
    let same : c.eq.result ≡ eqb r.high.value r.low.value = search rules in
    sym (by_rules (goal.at.returns c).After-has_misled-misled ∙ rw (c.if-unfit.false, c.if-misled.false, lt-leb _ _ c.if-falls.false, sym c.flagged.ensures ∙ c.if-flagged.false, sym same ∙ c.if-eq.false))
