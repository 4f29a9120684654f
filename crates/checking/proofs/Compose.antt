-- The rules one after the other, and the sheet as they leave it, in the terms of the code. Assumes nothing.
use Prim.Native.Nat.{ℕ, ◌*◌, ◌/◌, ◌≤◌}
use mathlib.Core.Path.{◌≡◌, sym, ap, ◌∙◌}
use mathlib.Core.Bool.{Bool, false}
use mathlib.Core.List.{List}
use native.Mathlib.Omega.{arith}
use lib.ListN.{length}
use borrow.Author.Tests.{eq-eqb, ne_eqb}
use Rattle.words.specs.Words.{word_at, words_over}
use Rattle.diagram.specs.Format.{nodes}
use Rattle.diagram.specs.Answer.{Answer, value, refusal, and_then}
use Rattle.diagram.specs.Rules.{check_header, check_diagram, check}
use Rattle.diagram.specs.Reading.{IsHeader}
use Rattle.diagram.proofs.Refusals.{early_low, header_refuses}
use Rattle.diagram.proofs.Accept.{Headed, headed}
use Rattle.rules.specs.declared.Refusal.{Refusal}
use Rattle.std.specs.Prelude.{Result, Ok, Err}
use Rattle.rules.specs.Refusals.{number_of, place_of, verdict_as}
use Rattle.checking.specs.Operations.{checking_for, sheet_by, blank_for}

-- a refusal other than 9 leaves the sheet as it was
pub sheet_kept : {A : Type 0} (f : ℕ → ℕ) (m : ℕ) (a : Answer A) (number k : ℕ) (s : List ℕ) → a ≡ refusal number k → (number ≡ 9 → ⊥) → s ≡ sheet_by f m a s
unfolding sheet_by
sheet_kept f m a number k s e h = rw e (rw (ne_eqb number 9 h))

-- ... and 9 leaves zeros
pub sheet_zeroed : {A : Type 0} (f : ℕ → ℕ) (m : ℕ) (a : Answer A) (number k : ℕ) (s : List ℕ) → a ≡ refusal number k → number ≡ 9 → words_over (λ _. 0) m s ≡ sheet_by f m a s
unfolding sheet_by
sheet_zeroed f m a number k s e h = rw e (rw (eq-eqb number 9 h))

-- a header that passes: the places that are needed are there
pub headed_places : (need : ℕ → ℕ) (t : List ℕ) (long : ℕ) → {loose : Bool} → Headed loose t (long / 8) need → (N : ℕ) → N ≡ nodes (word_at t) → 8 * need N ≤ long
headed_places need t long {loose} h N e = rw e (omega (arith, h.enough))

-- all rules, where `need N` places are needed: the verdict v on the header, then u on the diagram
module _ (need : ℕ → ℕ) (t s : List ℕ) (v : Result (Unit {0}) Refusal) (v-is : verdict_as v ≡ check_header t (length s / 8) need) where
  pub header_refused : (r : Refusal) → v ≡ Err r → (refusal (number_of r) (place_of r) ≡ checking_for need t s) × (s ≡ blank_for need t s)
  unfolding checking_for check and_then blank_for
  header_refused r q =
      let e : check_header t (length s / 8) need ≡ refusal (number_of r) (place_of r) = sym v-is ∙ ap verdict_as q in
      let a : checking_for need t s ≡ refusal (number_of r) (place_of r) = rw e in
      (sym a, sheet_kept _ _ (checking_for need t s) (number_of r) (place_of r) s a (early_low (header_refuses false t (length s / 8) need (number_of r) (place_of r) e)).0)

  -- what the header's rules give to those after them
  module _ (passed : v ≡ Ok tt) where
    pub header_holds : Headed false t (length s / 8) need
    header_holds = headed false t (length s / 8) need (sym v-is ∙ ap verdict_as passed)

    module _ (n N e : ℕ) (h : IsHeader (word_at t) n N e) (u : Result (Unit {0}) Refusal) (u-is : verdict_as u ≡ check_diagram (word_at t) n N) where
      checking_is : checking_for need t s ≡ and_then (verdict_as u) (λ _. value (n, N))
      unfolding checking_for check and_then
      checking_is = rw (sym v-is ∙ ap verdict_as passed, ← h.settings_is, ← h.nodes_is, ← u-is)

      pub diagram_passed : u ≡ Ok tt → value (n, N) ≡ checking_for need t s
      unfolding and_then
      diagram_passed q = sym (checking_is ∙ rw q)

      -- refused: by 9, with the places zeroed, or before
      module _ (r : Refusal) (q : u ≡ Err r) where
        pub diagram_refused : refusal (number_of r) (place_of r) ≡ checking_for need t s
        unfolding and_then
        diagram_refused = sym (checking_is ∙ rw q)

        pub diagram_kept : (m : ℕ) → m ≡ number_of r → (m ≡ 9 → ⊥) → s ≡ blank_for need t s
        unfolding blank_for
        diagram_kept m m-is o = sheet_kept _ _ (checking_for need t s) (number_of r) (place_of r) s (sym diagram_refused) (λ i. o (m-is ∙ i))

        pub diagram_zeroed : (m : ℕ) → m ≡ number_of r → m ≡ 9 → (s' : List ℕ) → s' ≡ words_over (λ _. 0) (need N) s → s' ≡ blank_for need t s
        unfolding blank_for
        diagram_zeroed m m-is o s' z =
            z ∙ rw h.nodes_is (sheet_zeroed _ (need (nodes (word_at t))) (checking_for need t s) (number_of r) (place_of r) s (sym diagram_refused) (sym m-is ∙ o))
