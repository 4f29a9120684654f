-- Parts from a smaller sheet: the sheet matters for refusal 10 alone, so what was written where 4 × N + 512 places were required is written still. Assumes nothing.
use Prim.Native.Nat.{ℕ, ◌+◌, ◌*◌, ◌/◌, ◌≤◌, ◌<◌}
use mathlib.Core.Path.{◌≡◌, refl, sym, ap, ◌∙◌}
use mathlib.Core.Logic.{◌≢◌}
use mathlib.Core.List.{List}
use native.Mathlib.Omega.{arith}
use lib.ListN.{length}
use Rattle.words.specs.Words.{word_at}
use Rattle.diagram.specs.Format.{settings, nodes}
use Rattle.diagram.specs.Meaning.{permitted}
use Rattle.diagram.specs.Answer.{Answer, value, refusal, and_then}
use Rattle.diagram.proofs.AnswerLaws.{refused_not, then_some}
use Rattle.diagram.proofs.Accept.{check_lent, check_accepted}
use Rattle.diagram.proofs.Refusals.{Ten, then_refuses, ten_lent}
use Rattle.checking.specs.Operations.{checking_for}
use Rattle.tables.specs.Writing.{length_of, out_after}
use Rattle.parts.specs.Operations.{needed, part_of, part_writing, part_writing_for, Promise}
use Rattle.parts.proofs.Bounds.{part_refuses}

-- the places that were required before request 8
abbrev pub formerly : ℕ → ℕ
formerly N = 4 * N + 512

module _ (t : List ℕ) (k j : ℕ) where
  -- 10 only where fewer places are lent than are needed
  pub ten_below : (need : ℕ → ℕ) (s : List ℕ) (room place : ℕ) → part_writing_for need t k j s room ≡ refusal 10 place → length s / 8 < need (nodes (word_at t))
  unfolding part_writing_for checking_for
  ten_below need s room place e =
      let Q = Ten (length s / 8) (need (nodes (word_at t))) in
      then_refuses Q (checking_for need t s) _ (ten_lent t (length s / 8) need)
      (λ _ _. part_refuses Q (λ i. omega arith) (λ i. omega arith) (λ i. omega arith) k j room (settings (word_at t)) (permitted (word_at t))) 10 place e refl

  -- where neither answer is 10 they are the same, whatever is lent and needed
  pub lent_alike : (need need' : ℕ → ℕ) (s s' : List ℕ) (room : ℕ) → part_writing_for need t k j s room ≢ refusal 10 0 → part_writing_for need' t k j s' room ≢ refusal 10 0
      → part_writing_for need t k j s room ≡ part_writing_for need' t k j s' room
  unfolding part_writing_for checking_for and_then
  lent_alike need need' s s' room h h' =
      let go : Answer (ℕ × ℕ) → Answer (List ℕ) = λ a. and_then a (λ _. part_of k j room (settings (word_at t)) (permitted (word_at t))) in
      ap go (check_lent t (length s / 8) (length s' / 8) need need' (λ e. h (ap go e)) (λ e. h' (ap go e)))

  -- bytes that were answered where `formerly N` places were required
  module _ (s : List ℕ) (room : ℕ) (bytes : List ℕ) (before : part_writing_for formerly t k j s room ≡ value bytes) where
    -- they are answered on every sheet of N + 512 places
    pub same_part : (s' : List ℕ) → needed (nodes (word_at t)) ≤ length s' / 8 → part_writing t k j s' room ≡ value bytes
    same_part s' l =
        sym (lent_alike formerly needed s s' room (λ e. refused_not (sym e ∙ before)) (λ e. omega (arith, ten_below needed s' room 0 e))) ∙ before

    -- ... on that sheet too
    pub same_sheet : part_writing t k j s room ≡ value bytes
    unfolding part_writing_for checking_for
    same_sheet =
        let v = then_some (checking_for formerly t s) _ before in
        let a = check_accepted t (length s / 8) formerly v.0.0 v.0.1 v.1 in
        same_part s (omega (arith, a.1, a.0.has_nodes))

    -- ... and a call that keeps the promise answers their number and writes them
    pub same_call : (s' out : List ℕ) (answer : Answer ℕ) (after out' : List ℕ) → length out ≡ room → needed (nodes (word_at t)) ≤ length s' / 8
        → Promise t k j s' out answer after out' → (answer ≡ value (length bytes)) × (out' ≡ out_after (value bytes) out)
    unfolding length_of
    same_call s' out answer after out' long l K =
        let e = ap (part_writing t k j s') long ∙ same_part s' l in
        (K.answers ∙ ap length_of e, K.writes ∙ ap (λ (a : Answer (List ℕ)). out_after a out) e)
