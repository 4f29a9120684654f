-- The answers of part-write fit the packed form: places up to 65,535, and at most 524,288 bytes, so no value can be taken for a refusal; and the sheet is handed back as asked. Assumes nothing.
use Prim.Native.Nat.{ℕ, ◌≤◌}
use mathlib.Core.Path.{◌≡◌, refl, sym, ap, ◌∙◌}
use mathlib.Core.Bool.{Bool}
use mathlib.Core.List.{List}
use mathlib.Core.Option.{Option, none, some}
use native.Mathlib.Omega.{arith}
use lib.Dec.{ltb}
use lib.ListN.{length}
use Rattle.words.specs.Words.{word_at}
use Rattle.diagram.specs.Format.{settings, nodes}
use Rattle.diagram.specs.Meaning.{permitted}
use Rattle.diagram.specs.Answer.{Answer, value, refusal}
use Rattle.diagram.proofs.Refusals.{Refuses, refuses, passes, unless, then_refuses}
use Rattle.diagram.proofs.Accept.{accepts_accepted}
use Rattle.checking.specs.Operations.{checking_for}
use Rattle.checking.specs.Sheets.{BeforeNine, HandedBack}
use Rattle.checking.proofs.Bounds.{Low, checking_place}
use Rattle.checking.proofs.Blank.{Late, hands_back}
use Rattle.division.specs.Span.{in_part}
use Rattle.division.specs.Operations.{no_part}
use Rattle.tables.specs.Table.{table_of}
use Rattle.tables.specs.Writing.{fitted, length_of}
use Rattle.tables.proofs.TableLaws.{table_of-some}
use Rattle.tables.proofs.HandingOut.{answer_value, answer_refusal}
use Rattle.parts.specs.Operations.{needed, part_of, part_writing, part_writing_for, Promise}
use Rattle.parts.proofs.Promised.{written_part}

-- the refusals stay
length_refuses : (Q : ℕ → ℕ → Type 0) (a : Answer (List ℕ)) → Refuses Q a → Refuses Q (length_of a)
unfolding length_of
length_refuses Q (value bytes) h = passes Q (length bytes)
length_refuses Q (refusal number place) h = refuses Q number place (h number place refl)

-- a part is refused by 15, 16 and 11
pub part_refuses : (Q : ℕ → ℕ → Type 0) → Q 15 0 → Q 16 0 → Q 11 0 → (k j room n : ℕ) (P : ℕ → Bool) → Refuses Q (part_of k j room n P)
unfolding part_of
part_refuses Q q q' q'' k j room n P = unless Q (no_part k j) 15 0 q (fits (table_of n (in_part k j n P)))
  where
    fits : (o : Option (List ℕ)) → Refuses Q (fitted room o)
    fits none = unfold fitted in refuses Q 16 0 q'
    fits (some bytes) = unfold fitted in unless Q (ltb room (length bytes)) 11 0 q'' (passes Q bytes)

-- the place of every refusal is at most 65,535
pub part_place : (t : List ℕ) (k j : ℕ) (s : List ℕ) (room : ℕ) → Refuses Low (length_of (part_writing t k j s room))
unfolding part_writing_for
part_place t k j s room =
    length_refuses Low (part_writing t k j s room)
    (then_refuses Low (checking_for needed t s) _ (checking_place needed t s) λ _ _. part_refuses Low (omega arith) (omega arith) (omega arith) k j room (settings (word_at t)) (permitted (word_at t)))

-- the sheet is handed back as asked, by every call that keeps the promise
pub part_back : (t : List ℕ) (k j : ℕ) (s out : List ℕ) (answer : Answer ℕ) (s' out' : List ℕ) → Promise t k j s out answer s' out' → HandedBack (needed (nodes (word_at t))) answer s s'
unfolding part_writing_for
part_back t k j s out answer s' out' K =
    let H = hands_back needed t s (λ _. part_of k j (length out) (settings (word_at t)) (permitted (word_at t))) (λ _. part_refuses Late (omega arith) (omega arith) (omega arith) k j (length out) (settings (word_at t)) (permitted (word_at t))) in
    let same : BeforeNine answer → BeforeNine (part_writing t k j s (length out)) = λ b. (b.0, b.1, answer_refusal (part_writing t k j s (length out)) b.0 b.1 (sym K.answers ∙ b.2), b.3, b.4) in
    let back : BeforeNine (part_writing t k j s (length out)) → BeforeNine answer = λ b. (b.0, b.1, (unfold length_of in K.answers ∙ ap length_of b.2), b.3, b.4) in
    rw K.leaves (record { untouched = λ b. H.untouched (same b); zero = λ none. H.zero (λ b. none (back b)); past = H.past; same_length = H.same_length })

-- a written part has at most 524,288 bytes
pub bytes_fit : (t : List ℕ) (k j : ℕ) (s : List ℕ) (room m : ℕ) → length_of (part_writing t k j s room) ≡ value m → m ≤ 524288
bytes_fit t k j s room m e =
    let n = settings (word_at t) in
    let a = answer_value (part_writing t k j s room) m e in
    let T = table_of-some n _ a.0 (written_part t k j s room a.0 a.1) in
    let A = accepts_accepted a.0 n T.0 T.2.accepts in
    omega (arith, a.2, A.long, A.few)
