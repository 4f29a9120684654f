-- The blank sheet is handed back as the request asks, by every operation that is the check and then something else. Assumes nothing.
use Prim.Native.Nat.{ℕ, ◌+◌, ◌*◌, ◌/◌, ◌≤◌, ◌<◌}
use mathlib.Core.Path.{◌≡◌, refl, sym, ap, subst, ◌∙◌}
use mathlib.Core.Bool.{Bool, true, false}
use mathlib.Core.List.{List}
use native.Mathlib.Omega.{arith}
use lib.Dec.{lit<, eqb}
use lib.ListN.{length, drop}
use borrow.Author.Tests.{eqb-true, eqb-false}
use Rattle.words.specs.Words.{word_at, words_over}
use Rattle.words.proofs.Laws.{words_read, length-words_over}
use Rattle.diagram.specs.Format.{settings, nodes}
use Rattle.diagram.specs.Meaning.{permitted}
use Rattle.diagram.specs.Answer.{Answer, value, refusal, and_then}
use Rattle.diagram.proofs.Accept.{headed, check_accepted}
use Rattle.diagram.proofs.Refusals.{Refuses, passes, check_refuses, nine_headed}
use Rattle.checking.specs.Operations.{checking, checking_for, testing, sheet_by, blank, blank_for}
use Rattle.checking.specs.Sheets.{BeforeNine, HandedBack}
use Rattle.checking.proofs.Compose.{sheet_kept, sheet_zeroed, headed_places}
use Rattle.checking.proofs.Lending.{filled_past}
use Rattle.checking.proofs.Bounds.{test_refuses}

-- an operation's own refusal: none of the table's
abbrev pub Late : ℕ → ℕ → Type 0
Late number place = 10 < number

-- the places are zeroed, and the answer is no refusal that touches nothing
zeroed : {A : Type 0} (m : ℕ) (answer : Answer A) (s s' : List ℕ) → 8 * m ≤ length s → s' ≡ words_over (λ _. 0) m s
    → (BeforeNine answer → ⊥) → HandedBack m answer s s'
zeroed m answer s s' room e none = record {
  untouched = λ b. absurd (none b);
  zero = λ _ k l. ap (λ (x : List ℕ). word_at x k) e ∙ words_read (λ _. 0) m s k l (lit< tt);
  past = filled_past (λ _. 0) m s s' e;
  same_length = ap length e ∙ length-words_over (λ _. 0) m s room;
}

-- as much is lent as is needed, where the check passes or refuses by 9
module _ (need : ℕ → ℕ) (t s : List ℕ) where
  abbrev m : ℕ
  m = need (nodes (word_at t))

  passed_room : (v : ℕ × ℕ) → checking_for need t s ≡ value v → 8 * m ≤ length s
  unfolding checking_for
  passed_room v e = let a = check_accepted t (length s / 8) need v.0 v.1 e in omega (arith, a.1, ap need a.0.has_nodes)

  nine_room : (place : ℕ) → checking_for need t s ≡ refusal 9 place → 8 * m ≤ length s
  unfolding checking_for
  nine_room place e = headed_places need t (length s) (headed false t (length s / 8) need (nine_headed t (length s / 8) need place e)) (nodes (word_at t)) refl

  -- refused: by 9, or before
  refused : {B : Type 0} (number place : ℕ) → checking_for need t s ≡ refusal number place → HandedBack {A = B} m (refusal number place) s (blank_for need t s)
  unfolding checking_for blank_for
  refused {B} number place e = go (eqb number 9) refl
    where
      go : (b : Bool) → eqb number 9 ≡ b → HandedBack {A = B} m (refusal number place) s (blank_for need t s)
      go true q =
          let nine : number ≡ 9 = eqb-true number 9 q in
          let e' = subst (λ (r : ℕ). checking_for need t s ≡ refusal r place) nine e in
          zeroed m (refusal number place) s (blank_for need t s) (nine_room place e') (sym (sheet_zeroed (λ _. 0) m (checking_for need t s) number place s e nine)) (λ b. let i = b.2 in let j : number ≡ b.0 = cc in b.4 (sym j ∙ nine))
      go false q =
          let other : number ≡ 9 → ⊥ = eqb-false number 9 q in
          let kept : blank_for need t s ≡ s = sym (sheet_kept (λ _. 0) m (checking_for need t s) number place s e other) in
          record {
            untouched = λ _. kept;
            zero = λ none k l. absurd (none (number, place, refl, (check_refuses t (length s / 8) need number place e).1, other));
            past = ap (drop (8 * m)) kept;
            same_length = ap length kept;
          }

  -- the check, and then f, whose refusals are its own
  module _ {B : Type 0} (f : ℕ × ℕ → Answer B) (late : (v : ℕ × ℕ) → Refuses Late (f v)) where
    pub hands_back : HandedBack m (and_then (checking_for need t s) f) s (blank_for need t s)
    unfolding and_then blank_for sheet_by
    hands_back = go (checking_for need t s) refl
      where
        go : (a : Answer (ℕ × ℕ)) → checking_for need t s ≡ a → HandedBack m (and_then a f) s (blank_for need t s)
        go (value v) e = zeroed m (f v) s (blank_for need t s) (passed_room v e) (rw e) (λ b. absurd (omega (arith, late v b.0 b.1 b.2, b.3)))
        go (refusal number place) e = refused number place e

-- checking and testing
pub checking_back : (t s : List ℕ) → HandedBack (nodes (word_at t) + 1) (checking t s) s (blank t s)
unfolding and_then
checking_back t s = subst (λ a. HandedBack (nodes (word_at t) + 1) a s (blank t s)) (only (checking t s)) (hands_back (λ N. N + 1) t s value (λ v. passes Late v))
  where
    only : (a : Answer (ℕ × ℕ)) → and_then a value ≡ a
    only (value v) = refl
    only (refusal number place) = refl

pub testing_back : (t : List ℕ) (x : ℕ) (s : List ℕ) → HandedBack (nodes (word_at t) + 1) (testing t x s) s (blank t s)
unfolding testing
testing_back t x s = hands_back (λ N. N + 1) t s _ (λ _. test_refuses Late (omega arith) x (settings (word_at t)) (permitted (word_at t)))
