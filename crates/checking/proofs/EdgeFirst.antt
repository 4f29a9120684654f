-- The answers that moved when rule 6 came before rule 5 are those of the request, and no others. Assumes nothing.
use Prim.Native.Nat.{ℕ, zero, suc, ◌-◌, ◌/◌, ◌≤◌, ◌<◌}
use mathlib.Core.Path.{◌≡◌, refl, sym, ◌∙◌}
use mathlib.Core.Logic.{◌⊎◌, inl, inr, ◌↔◌}
use mathlib.Core.Bool.{Bool, true, false, ◌&&◌, ◌||◌}
use mathlib.Core.List.{List, []}
use native.Mathlib.Omega.{arith}
use lib.Dec.{eqb, ltb, leb}
use lib.ListN.{length}
use borrow.Author.Tests.{ltb-true, leb-true, lt-ltb, le-leb}
use Rattle.words.specs.Words.{word_at}
use Rattle.words.proofs.Cases.{or_true, or_either, both_true}
use Rattle.diagram.specs.Format.{Words, settings, nodes, height, then_edge, else_edge}
use Rattle.diagram.specs.Answer.{Answer, value, refusal, and_then, pass, each}
use Rattle.diagram.specs.Rules.{misled, check_header, check_record, check_records, check_diagram, check, Accepts}
use Rattle.diagram.proofs.AnswerLaws.{refused_not, each_all, all_each, each_agree, each_refused}
use Rattle.diagram.proofs.Accept.{fitting, fits, records_reduced}
use Rattle.diagram.proofs.Fields.{word_below}
use Rattle.diagram.proofs.Ascending.{rising}
use Rattle.checking.specs.Operations.{checking_for, sheet_by}
use Rattle.checking.specs.EdgeFirst.{former_record, former_for, BreaksBoth, Moves}

-- where all records before it pass, a record with an edge to an earlier one of greater height breaks both rules
pub taller_breaks_both : (w : Words) (n k j : ℕ) → check_records w n k ≡ pass → j ≤ k → 0 < height w (suc k) → height w (suc k) < height w j
    → (then_edge w (suc k) / 2 ≡ j) ⊎ (else_edge w (suc k) / 2 ≡ j) → BreaksBoth w n (suc k)
unfolding height misled
taller_breaks_both w n k zero e l t h to = absurd (omega arith)
taller_breaks_both w n zero (suc j) e l t h to = absurd (omega arith)
taller_breaks_both w n (suc k) (suc j) e l t h to =
    let R = records_reduced w n (suc k) e in
    let a = word_below (w (suc (suc k))) (w (suc j)) h in
    let b = rising w n (suc k) R j k (omega arith) (omega arith) in
    let i : suc (suc k) - 1 ≡ suc k = omega arith in
    let leads : (d : ℕ) → d / 2 ≡ suc j → misled w (suc (suc k)) d ≡ true =
    λ d q. rw q (or_either (leb (suc (suc k)) (suc j)) (le-leb (height w (suc (suc k))) (height w (suc j)) (omega arith))) in
    record {
      tall = t;
      low = omega (arith, R.ordered.low j (omega arith));
      later = omega arith;
      falls = rw i (omega arith);
      misleads = elim to [ inl q ↦ inl (leads (then_edge w (suc (suc k))) q) | inr q ↦ inr (leads (else_edge w (suc (suc k))) q) ];
    }

-- one record, by both orders
module _ (w : Words) (n k : ℕ) where
  abbrev unfit : Bool
  unfit = eqb (height w k) 0 || ltb n (height w k)

  abbrev falling : Bool
  falling = ltb 1 k && leb (w k) (w (k - 1))

  abbrev misleading : Bool
  misleading = misled w k (then_edge w k) || misled w k (else_edge w k)

  breaks_both : unfit ≡ false → falling ≡ true → misleading ≡ true → BreaksBoth w n k
  breaks_both p q r =
      let h = fits n (height w k) p in
      let f = both_true (ltb 1 k) (leb (w k) (w (k - 1))) q in
      record {
        tall = h.0;
        low = h.1;
        later = ltb-true 1 k f.0;
        falls = leb-true (w k) (w (k - 1)) f.1;
        misleads = or_true (misled w k (then_edge w k)) (misled w k (else_edge w k)) r;
      }

  -- both rules are broken, or the answer is the same
  both_or_same : BreaksBoth w n k ⊎ (former_record w n k ≡ check_record w n k)
  unfolding former_record check_record
  both_or_same = go unfit falling misleading refl refl refl
    where
      go : (u f c : Bool) → unfit ≡ u → falling ≡ f → misleading ≡ c → BreaksBoth w n k ⊎ (former_record w n k ≡ check_record w n k)
      go true f c p q r = inr (rw p)
      go false true true p q r = inl (breaks_both p q r)
      go false true false p q r = inr (rw (p, q, r))
      go false false c p q r = inr (rw (p, q))

  module _ (B : BreaksBoth w n k) where
    fit : unfit ≡ false
    fit = fitting n (height w k) B.tall B.low

    both_former : former_record w n k ≡ refusal 5 k
    unfolding former_record
    both_former = rw (fit, lt-ltb 1 k B.later, le-leb (w k) (w (k - 1)) B.falls)

    both_present : check_record w n k ≡ refusal 6 k
    unfolding check_record
    both_present = rw (fit, leads)
      where
        leads : misleading ≡ true
        leads = elim B.misleads [ inl e ↦ rw e | inr e ↦ or_either (misled w k (then_edge w k)) e ]

  -- what passes the one order passes the other
  passes_former : check_record w n k ≡ pass → former_record w n k ≡ pass
  passes_former e = elim both_or_same [ inl B ↦ absurd (refused_not (sym (both_present B) ∙ e)) | inr q ↦ q ∙ e ]

module _ (need : ℕ → ℕ) (table sheet : List ℕ) where
  abbrev w : Words
  w = word_at table

  abbrev n : ℕ
  n = settings w

  -- these answers were 5 at record k, and are 6 at record k
  pub moved : (k : ℕ) → Moves need table sheet k → (former_for need table sheet ≡ refusal 5 k) × (checking_for need table sheet ≡ refusal 6 k)
  unfolding former_for checking_for check check_diagram check_records and_then
  moved zero M = absurd (omega (arith, M.both.later))
  moved (suc j) M =
      let i : suc j - 1 ≡ j = omega arith in
      let e : each (λ k. check_record w n (suc k)) j ≡ pass = rw (← i) M.before_pass in
      let f : each (λ k. former_record w n (suc k)) j ≡ pass = all_each _ j (λ k l. passes_former w n (suc k) (each_all (λ k. check_record w n (suc k)) j e k l)) in (
        rw (M.header_passes, each_refused (λ k. former_record w n (suc k)) (nodes w) j 5 (suc j) M.is_record f (both_former w n (suc j) M.both)),
        rw (M.header_passes, each_refused (λ k. check_record w n (suc k)) (nodes w) j 6 (suc j) M.is_record e (both_present w n (suc j) M.both)),
      )

  -- and no others: either some record is such a one, or both orders answer the same
  pub moved_or_same : ((k : ℕ) × Moves need table sheet k) ⊎ (former_for need table sheet ≡ checking_for need table sheet)
  unfolding former_for checking_for check check_diagram check_records and_then
  moved_or_same = go (check_header table (length sheet / 8) need) refl
    where
      go : (a : Answer (Unit {0})) → check_header table (length sheet / 8) need ≡ a → ((k : ℕ) × Moves need table sheet k) ⊎ (former_for need table sheet ≡ checking_for need table sheet)
      go (refusal r p) e = inr (rw e)
      go (value v) e =
          elim (each_agree (λ k. BreaksBoth w n (suc k)) (λ k. former_record w n (suc k)) (λ k. check_record w n (suc k)) (nodes w) (λ k. both_or_same w n (suc k))) [
            | inl (k, l, q, B) ↦ (let i : suc k - 1 ≡ k = omega arith in inl (suc k, record { header_passes = e; is_record = l; before_pass = rw i q; both = B }))
            | inr q ↦ inr (rw (e, q))
          ]

  pub others_stay : ((k : ℕ) → Moves need table sheet k → ⊥) → former_for need table sheet ≡ checking_for need table sheet
  others_stay none = elim moved_or_same [ inl (k, M) ↦ absurd (none k M) | inr e ↦ e ]

  -- a table that passes by the one order passes by the other, with the same n and N
  pub passed_alike : (v : ℕ × ℕ) → (former_for need table sheet ≡ value v) ↔ (checking_for need table sheet ≡ value v)
  passed_alike v =
      elim moved_or_same [
        | inl (k, M) ↦ (let m = moved k M in (λ e. absurd (refused_not (sym m.0 ∙ e)), λ e. absurd (refused_not (sym m.1 ∙ e))))
        | inr q ↦ (λ e. sym q ∙ e, λ e. q ∙ e)
      ]

  -- an operation that is the check and then f moves with the check, and the sheet stays as it was
  pub moved_then : {B : Type 0} (f : ℕ × ℕ → Answer B) (k : ℕ) → Moves need table sheet k
      → (and_then (former_for need table sheet) f ≡ refusal 5 k) × (and_then (checking_for need table sheet) f ≡ refusal 6 k)
  unfolding and_then
  moved_then f k M = let m = moved k M in (rw m.0, rw m.1)

  pub sheet_stays : (f : ℕ → ℕ) (m : ℕ) → sheet_by f m (former_for need table sheet) sheet ≡ sheet_by f m (checking_for need table sheet) sheet
  unfolding sheet_by
  sheet_stays f m = elim moved_or_same [ inl (k, M) ↦ (let a = moved k M in rw (a.0, a.1)) | inr e ↦ rw e ]

-- acceptance is the same
pub accepted_alike : (table : List ℕ) (n N : ℕ) → (former_for (λ _. 0) table [] ≡ value (n, N)) ↔ Accepts table n N
unfolding checking_for
accepted_alike table n N = passed_alike (λ _. 0) table [] (n, N)
