-- The marks, and rule 9 by them, in the terms of the code. Assumes nothing.
use Prim.Native.Nat.{ℕ, zero, suc, ◌+◌, ◌-◌, ◌/◌, ◌≤◌, ◌<◌}
use mathlib.Core.Path.{◌≡◌, refl, sym, ap, ◌∙◌}
use mathlib.Core.Bool.{Bool, true, false, cond, ◌||◌, or-false, or_assoc}
use mathlib.Core.List.{List}
use native.Mathlib.Omega.{arith}
use native.Mathlib.Numerals.{add-one}
use lib.Dec.{eqb}
use lib.ListN.{length, get_or, set, replicate, length-set, length-replicate, get_or-replicate}
use lib.Seq.{get_or-set_same, get_or-set_other}
use borrow.Author.Tests.{eq-eqb, ne_eqb, eqb-true, eqb-false}
use Rattle.words.proofs.Cases.{or_either}
use Rattle.diagram.specs.Format.{Words}
use Rattle.diagram.specs.Count.{indicator, some_below}
use Rattle.diagram.specs.Answer.{Answer, value, refusal, pass, and_then, each}
use Rattle.diagram.specs.Rules.{names, named, check_named, check_names}
use Rattle.diagram.specs.Reading.{HasFields}
use Rattle.diagram.proofs.AnswerLaws.{each_next, each_refused, each_cong}
use Rattle.diagram.proofs.Fields.{fields_record}
use Rattle.records.specs.Inner.{Marked, check_marks}

-- no record has been read: no mark
pub no_marks : (m : ℕ) (w : Words) → Marked (replicate m 0) 0 w
unfolding named some_below indicator Marked
no_marks m w k l = get_or-replicate {A = ℕ} m k 0 0 (omega (arith, length-replicate {A = ℕ} m 0))

-- one mark more
mark_set : (m : List ℕ) (v j : ℕ) (b : Bool) → v < length m → get_or m j 0 ≡ indicator b → get_or (set m v 1) j 0 ≡ indicator (b || eqb v j)
unfolding indicator
mark_set m v j b l e = go (eqb v j) refl
  where
    go : (c : Bool) → eqb v j ≡ c → get_or (set m v 1) j 0 ≡ indicator (b || c)
    go true q = rw (← (eqb-true v j q)) (get_or-set_same m v 1 0 l) ∙ ap indicator (sym (or_either b refl))
    go false q = get_or-set_other m v j 1 0 (λ r. eqb-false v j q (sym r)) ∙ e ∙ ap indicator (sym (or-false b))

-- the nodes that record k + 1 names are marked
pub marks_next : (w : Words) (m m' : List ℕ) (k word h a b : ℕ) → word ≡ w (k + 1) → HasFields word h a b → a / 2 < length m → b / 2 < length m → m' ≡ set (set m (a / 2) 1) (b / 2) 1 → Marked m k w
    → (length m' ≡ length m) × Marked m' (k + 1) w
unfolding Marked named some_below names
marks_next w m m' k word h a b word_is F x y e q =
    let r = fields_record w (k + 1) word h a b (omega arith) word_is F in
    let l : length m' ≡ length m = ap length e ∙ simp length-set in (
      l,
      λ j i. rw (e, add-one)
          (mark_set (set m (a / 2) 1) (b / 2) j (named w k j || eqb (a / 2) j) (simp length-set y) (mark_set m (a / 2) j (named w k j) x (q j (omega arith)))
          ∙ ap indicator (or_assoc (named w k j) (eqb (a / 2) j) (eqb (b / 2) j) ∙ rw (r.then_is, r.else_is, add-one))),
    )

-- a turn of the search for a node without a mark
mark_check : List ℕ → ℕ → Answer (Unit {0})
mark_check marks k = cond (eqb (get_or marks (suc k) 0) 0) (refusal 9 (suc k)) pass

before : (j : ℕ) → suc j - 1 ≡ j
before j = omega arith

pub marks_refused : (marks : List ℕ) (N k : ℕ) → 0 < k → k ≤ N → check_marks marks (k - 1) ≡ pass → get_or marks k 0 ≡ 0 → refusal 9 k ≡ check_marks marks N
unfolding check_marks mark_check
marks_refused marks N zero l i e z = absurd (omega arith)
marks_refused marks N (suc j) l i e z =
    sym (each_refused (mark_check marks) N j 9 (suc j) (omega arith) (rw (← before j) e) (rw (eq-eqb (get_or marks (suc j) 0) 0 z)))

pub marks_passed : (marks : List ℕ) (k : ℕ) → 0 < k → check_marks marks (k - 1) ≡ pass → (get_or marks k 0 ≡ 0 → ⊥) → check_marks marks (k + 1 - 1) ≡ pass
unfolding check_marks mark_check
marks_passed marks zero l e z = absurd (omega arith)
marks_passed marks (suc j) l e z =
    let o : suc j + 1 - 1 ≡ suc j = omega arith in
    ap (check_marks marks) o ∙ each_next (mark_check marks) j (rw (← before j) e) ∙ rw (ne_eqb (get_or marks (suc j) 0) 0 z)

-- rule 9 by the marks, with one for node N, is rule 9
pub marks_names : (marks : List ℕ) (w : Words) (N : ℕ) → Marked marks N w → N < length marks → check_marks (set marks N 1) N ≡ check_names w N
unfolding check_marks mark_check check_names check_named indicator each and_then Marked
marks_names marks w zero h l = refl
marks_names marks w (suc M) h l =
    let o : suc M - 1 ≡ M = omega arith in
    let m = set marks (suc M) 1 in
    let one : (k : ℕ) → k < M → mark_check m k ≡ check_named w (suc M) (suc k) =
    λ k i. rw (get_or-set_other marks (suc M) (suc k) 1 0 (λ e. omega arith), h (suc k) (omega arith)) (go (named w (suc M) (suc k)) (suc k)) in
    rw (o, get_or-set_same marks (suc M) 1 0 l) (last (each (mark_check m) M) ∙ each_cong (mark_check m) (λ k. check_named w (suc M) (suc k)) M one)
  where
    last : (a : Answer (Unit {0})) → and_then a (λ _. pass) ≡ a
    last (value v) = refl
    last (refusal r p) = refl

    go : (b : Bool) (k : ℕ) → cond (eqb (indicator b) 0) (refusal 9 k) pass ≡ cond b pass (refusal 9 k)
    go true k = refl
    go false k = refl
