use Prim.Native.Nat.{ℕ, ◌+◌, ◌/◌, ◌<◌}
use mathlib.Core.Path.{◌≡◌, refl, sym, subst, ◌∙◌}
use native.Mathlib.Omega.{arith}
use lib.ListN.{length}
use Rattle.words.specs.Words.{word_at}
use Rattle.diagram.specs.Answer.{pass, each}
use Rattle.diagram.specs.Rules.{check_record, check_records}
use Rattle.records.specs.Inner.{Marked}
use Rattle.rules.proofs.Turns.{err_on, turn_refused, turn_passed}
use Rattle.records.proofs.Turns.{names_lower}
use Rattle.records.proofs.Marks.{marks_next}
use Rattle.records.proofs.pass.check_records.Goals as goal
use Rattle.records.proofs.pass.check_records.Goals.{After-mark_named, After-from}

pub loop-k-init : goal.loop-k-init
unfolding check_records each
loop-k-init c = (omega arith, refl, refl, c.requires.3)

pub check_record-requires : goal.check_record-requires
check_record-requires c = (omega arith, omega arith, c.word_at-word.ensures, c.word_before-before.ensures)

pub returns-in_err-check_record : goal.returns-in_err-check_record
unfolding check_records
returns-in_err-check_record c =
    let i = c.loop-k.invariant in
    let t = turn_refused (check_record _ _) _ _ i.1 c.check_record.ensures _ _ c.loop-k-test.true (c.in_err-check_record.was {u = tt}) in
    rw (err_on c.from_residual.ensures.1 ∙ sym (c.in_err-check_record.was {u = tt})) (t.0, i.2, λ e. absurd (t.1 e))

-- the record passed, so each node that it names has a mark
found : (c : After-from) → let r = c.from.result in let m = c.loop-k.marks in
    (r.high.value / 2 < length m) × (r.low.value / 2 < length m) × (check_records (word_at c.args.table.now) c.args.n (c.loop-k.k + 1) ≡ pass)
unfolding check_records
found c =
    let p = c.requires in
    let i = c.loop-k.invariant in
    let l = c.loop-k-test.true in
    let e = turn_passed (check_record _ _) _ _ i.1 c.check_record.ensures (c.in_ok-check_record.was {u = tt}) in
    let n = names_lower _ _ _ _ _ _ _ e c.word_at-word.ensures c.from.ensures in
    (omega arith, omega arith, e)

-- and these are marked
marked : (c : After-mark_named) → let m = c.mark_named.new.marks in let a = c.args in
    (length m ≡ length a.marks.now) × Marked m (c.loop-k.k + 1) (word_at a.table.now)
marked c =
    let i = c.loop-k.invariant in
    let n = marks_next _ _ _ _ _ _ _ _ c.word_at-word.ensures c.from.ensures (found (goal.at.After-mark_named c).After-from).0 (found (goal.at.After-mark_named c).After-from).1 c.mark_named.ensures i.3 in
    (n.0 ∙ i.2, n.1)

pub skip_level-k-requires : goal.skip_level-k-requires
skip_level-k-requires c =
    let p = c.requires in
    let l = c.loop-k-test.true in
    let m = marked (goal.at.skip_level-k-requires c).After-mark_named in
    (omega arith, omega arith, p.1, p.0, omega arith, m.1)

pub loop-k-preserved : goal.loop-k-preserved
loop-k-preserved c =
    let s = c.skip_level-k.ensures in
    (s.1, s.2 _ (found (goal.at.loop-k-preserved c).After-from).2, s.3 ∙ (marked (goal.at.loop-k-preserved c).After-mark_named).0, s.4)

pub returns : goal.returns
returns c =
    let a = c.args in
    let i = c.loop-k in
    let e : i.k ≡ a.nodes = omega (arith, i.invariant.0) in
    (sym i.invariant.1 ∙ rw e, i.invariant.2, λ _. subst (λ (m : ℕ). Marked i.marks m (word_at a.table.now)) e i.invariant.3)

pub mark_named-requires : goal.mark_named-requires
mark_named-requires c = ((found c).0, (found c).1)
