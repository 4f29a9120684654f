-- What a call that keeps part-write's promise comes to, on an accepted table. Assumes nothing.
use Prim.Native.Nat.{ℕ, ◌/◌, ◌≤◌, ◌<◌}
use mathlib.Core.Path.{◌≡◌, refl, sym, ap, ◌∙◌}
use mathlib.Core.List.{List}
use mathlib.Core.Option.{some}
use native.Mathlib.Omega.{arith}
use lib.Dec.{leb, ltb}
use lib.ListN.{length}
use borrow.Author.Tests.{leb-false}
use Rattle.words.specs.Words.{word_at}
use Rattle.words.proofs.Cases.{passed}
use Rattle.diagram.specs.Format.{settings}
use Rattle.diagram.specs.Meaning.{permitted}
use Rattle.diagram.specs.Answer.{Answer, value, refusal}
use Rattle.diagram.specs.Rules.{Accepts}
use Rattle.diagram.specs.Ordered.{Accepted}
use Rattle.diagram.proofs.AnswerLaws.{refused_not, then_some, then_unless}
use Rattle.diagram.proofs.Accept.{accepts_accepted, accepted_lent}
use Rattle.checking.specs.Operations.{checking_for}
use Rattle.division.specs.Span.{in_part}
use Rattle.division.specs.Operations.{no_part}
use Rattle.division.proofs.Sharing.{none_index}
use Rattle.tables.specs.Table.{table_of}
use Rattle.tables.specs.Writing.{length_of, out_after, HandsOut}
use Rattle.tables.proofs.Writes.{fitted_some}
use Rattle.tables.proofs.HandingOut.{answer_refusal, handed_out}
use Rattle.parts.specs.Operations.{needed, part_of, part_writing, part_writing_for, Promise}
use Rattle.parts.specs.Calls.{Call, Kept}
use Rattle.parts.specs.Division.{due}

-- the promise, with the answer as it is defined
pub as_defined : {t : List ℕ} {k j : ℕ} {s out : List ℕ} {a : Answer ℕ} {s' out' : List ℕ} → Promise t k j s out a s' out' → Promise t k j s out (length_of (part_writing t k j s (length out))) s' out'
as_defined p = record { answers = refl; writes = p.writes; leaves = p.leaves }

-- the bytes to write are the table of the part
pub written_part : (t : List ℕ) (k j : ℕ) (s : List ℕ) (room : ℕ) (bytes : List ℕ) → part_writing t k j s room ≡ value bytes
    → table_of (settings (word_at t)) (in_part k j (settings (word_at t)) (permitted (word_at t))) ≡ some bytes
unfolding part_writing_for part_of
written_part t k j s room bytes e = fitted_some room _ bytes (passed (no_part k j) refused_not (then_some (checking_for needed t s) _ e).2).1

module _ (table : List ℕ) (n N k : ℕ) (ok : Accepts table n N) (parts : 0 < k) (few : k ≤ 65535) where
  A : Accepted table n N
  A = accepts_accepted table n N ok

  -- part-write answers what is due
  pub due_is : (c : Call) → part_writing table k c.index c.sheet (length c.out) ≡ due table n N k c
  unfolding part_writing_for checking_for part_of due
  due_is c =
      rw (accepted_lent table (length c.sheet / 8) needed n N A, ← (none_index k c.index (λ e. omega arith) few), A.has_settings)
      (then_unless (ltb (length c.sheet / 8) (needed N)) 10 0 (n, N) _)

  module _ (c : Call) (K : Kept table k c) where
    answer_is : c.answer ≡ length_of (due table n N k c)
    answer_is = K.answers ∙ ap length_of (due_is c)

    -- refused just where that is due
    pub refused_due : (number place : ℕ) → c.answer ≡ refusal number place → due table n N k c ≡ refusal number place
    refused_due number place e = answer_refusal (due table n N k c) number place (sym answer_is ∙ e)

    pub due_refused : (number place : ℕ) → due table n N k c ≡ refusal number place → c.answer ≡ refusal number place
    unfolding length_of
    due_refused number place e = answer_is ∙ ap length_of e

    -- what is handed out is what was due: the table of the part
    pub handed_part : (bytes : List ℕ) → HandsOut c.answer c.after_out bytes → (c.index < k) × (table_of n (in_part k c.index n (permitted (word_at table))) ≡ some bytes)
    unfolding due
    handed_part bytes h =
        let d = handed_out (due table n N k c) c.out c.answer c.after_out answer_is (K.writes ∙ ap (λ a. out_after a c.out) (due_is c)) bytes h in
        let a = passed (ltb (length c.sheet / 8) (needed N)) refused_not d in
        let b = passed (leb k c.index) refused_not a.1 in
        (leb-false k c.index b.0, fitted_some (length c.out) _ bytes b.1)
