-- A part by its extent: what part-write answers, and its promise. Assumes nothing.
use Prim.Native.Nat.{ℕ, ◌+◌, ◌^◌, ◌≤◌}
use mathlib.Core.Path.{◌≡◌, refl, sym, ap, ◌∙◌}
use mathlib.Core.Bool.{Bool, true, false, cond}
use mathlib.Core.List.{List}
use native.Mathlib.Omega.{arith}
use lib.ListN.{length}
use Rattle.words.specs.Words.{word_at, words_over}
use Rattle.words.proofs.Laws.{length-words_over}
use Rattle.words.proofs.Cases.{passed}
use Rattle.diagram.specs.Meaning.{under}
use Rattle.diagram.specs.Count.{count_below}
use Rattle.diagram.specs.Answer.{Answer, value, refusal}
use Rattle.diagram.proofs.AnswerLaws.{refused_not, value_inj}
use Rattle.rules.specs.declared.Refusal.{Refusal}
use Rattle.counting.specs.Inner.{stored, Opens, Countable}
use Rattle.counting.proofs.Filling.{root_opens}
use Rattle.std.specs.Prelude.{Result, Ok, Err, IsErrAnd}
use Rattle.diagram.specs.declared.Header.{Header}
use Rattle.rules.specs.Refusals.{number_of, place_of}
use Rattle.rules.proofs.Turns.{err_on}
use Rattle.tables.specs.Answers.{written_as}
use Rattle.checking.specs.Operations.{sheet_by}
use Rattle.checking.specs.Inner.{Begins, Past}
use Rattle.checking.proofs.Accepting.{refused_by, answered}
use Rattle.checking.proofs.Lending.{kept_past, handed_back, blanked}
use Rattle.division.specs.Span.{start, size, within, in_part}
use Rattle.division.specs.Operations.{no_part, span_of}
use Rattle.division.proofs.Parts.{part_inside}
use Rattle.division.proofs.Sharing.{some_part}
use Rattle.tables.specs.Table.{table_of}
use Rattle.tables.specs.Writing.{fitted, length_of, out_after}
use Rattle.tables.specs.Inner.{Writes}
use Rattle.parts.specs.Operations.{needed, part_of, part_writing, part_writing_for, Promise}
use Rattle.parts.proofs.Lending.{past_more}

-- N + 512 places are enough
pub some_needed : (N : ℕ) → N + 1 ≤ needed N
some_needed N = omega arith

-- part j of k, of the c setups of n settings that P permits
module _ (k j n : ℕ) (P : ℕ → Bool) (out : List ℕ) where
  abbrev c : ℕ
  c = count_below P (2 ^ n)

  abbrev part : Answer (List ℕ)
  part = part_of k j (length out) n P

  -- there is none: rule 15
  pub none_kept : (number place : ℕ) → refusal number place ≡ span_of k j c → (refusal number place ≡ length_of part) × (out ≡ out_after part out)
  unfolding span_of part_of length_of out_after
  none_kept number place e = go (no_part k j) (sym e)
    where
      go : (b : Bool) → cond {A = Answer (ℕ × ℕ)} b (refusal 15 0) (value (start c k j, size c k j)) ≡ refusal number place
          → let a = cond b (refusal 15 0) (fitted (length out) (table_of n (in_part k j n P))) in (refusal number place ≡ length_of a) × (out ≡ out_after a out)
      go true e = let i : 15 ≡ number = cc in let l : 0 ≡ place = cc in (rw (← i, ← l), refl)
      go false e = absurd (refused_not (sym e))

  -- it has z setups from rank s on
  module _ (s z : ℕ) (e : value (s, z) ≡ span_of k j c) where
    found : (no_part k j ≡ false) × (start c k j ≡ s) × (size c k j ≡ z)
    unfolding span_of
    found = let a = passed (no_part k j) refused_not (sym e) in let v = value_inj a.1 in (a.0, ap (λ q. q.0) v, ap (λ q. q.1) v)

    pub span_inside : s + z ≤ c
    span_inside = omega (arith, found.1, found.2, part_inside c k j (some_part k j found.0).2)

    extent : fitted (length out) (table_of n (within P s z)) ≡ part
    unfolding part_of in_part
    extent = rw (found.0, found.1, found.2)

    pub some_kept : (answer : Answer ℕ) (out' : List ℕ) → Writes n (within P s z) out answer out' → (answer ≡ length_of part) × (out' ≡ out_after part out)
    some_kept answer out' W = (W.answers ∙ ap length_of extent, W.leaves ∙ ap (λ a. out_after a out) extent)

-- past the needed places the sheet after the span is as before
pub span_past : {A : Type 0} (f : ℕ → ℕ) (N : ℕ) (a : Answer A) (s s' : List ℕ) → s' ≡ sheet_by f (N + 1) a s → Past (needed N) s s'
span_past f N a s s' q = past_more (N + 1) (needed N) s s' (some_needed N) (kept_past f (N + 1) a s s' q)

-- ... and for a part the shares are filled in
module _ {t s s' : List ℕ} {n N e : ℕ} (C : Countable t s n N e) {a : Answer (ℕ × ℕ)} (q : s' ≡ sheet_by (stored (word_at t)) (N + 1) a s) {z : ℕ × ℕ} (a-is : a ≡ value z) where
  shares : s' ≡ words_over (stored (word_at t)) (N + 1) s
  unfolding sheet_by
  shares = q ∙ rw a-is

  pub span_opens : Opens t s' e n
  span_opens = (root_opens t s s' n N e C shares).1

  pub span_countable : Countable t s' n N e
  span_countable = record { holds = C.holds; reduced = C.reduced; inside = C.inside; room = omega (arith, C.room, ap length shares, length-words_over (stored (word_at t)) (N + 1) s C.room) }

-- part-write's promise
module _ {table sheet after : List ℕ} {a : Result Header Refusal} (B : Begins needed table sheet after a) (k j : ℕ) (out : List ℕ) where
  -- refused by the check
  pub check_refused : (b : Result ℕ Refusal) {r : Refusal} → a ≡ Err r → IsErrAnd b (λ d. d ≡ r) → Promise table k j sheet out (written_as b) after out
  unfolding part_writing_for length_of out_after
  check_refused b {r} q h =
      let p : refusal (number_of r) (place_of r) ≡ part_writing table k j sheet (length out) = refused_by B _ q in
      rw (err_on h) (record { answers = ap length_of p; writes = ap (λ b. out_after b out) p; leaves = handed_back B q })

  -- or as the part is answered and written
  pub part_promised : {h : Header} → a ≡ Ok h → (answer : Answer ℕ) (out' sheet' blank : List ℕ)
      → let part = part_of k j (length out) h.settings (under (word_at table) h.root.value) in
      (answer ≡ length_of part) × (out' ≡ out_after part out) × Past (needed h.nodes) after sheet' → blank ≡ words_over (λ _. 0) (needed h.nodes) sheet' → Promise table k j sheet out answer blank out'
  unfolding part_writing_for
  part_promised {h} q answer out' sheet' blank w z =
      let p = answered B q (part_of k j (length out)) (part_of k j (length out) h.settings (under (word_at table) h.root.value)) refl in
      record { answers = w.0 ∙ ap length_of p; writes = w.1 ∙ ap (λ b. out_after b out) p; leaves = blanked B q sheet' blank w.2 z }
