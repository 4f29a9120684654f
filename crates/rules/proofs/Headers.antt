-- The rules of the header, each where those before it passed, in the terms of the code. Assumes nothing.
use Prim.Native.Nat.{ℕ, ◌+◌, ◌*◌, ◌/◌, ◌≤◌, ◌<◌}
use mathlib.Core.Path.{◌≡◌, sym, ◌∙◌}
use mathlib.Core.Bool.{Bool, true, false, cond, not}
use mathlib.Core.List.{List}
use native.Mathlib.Nat.{mul-le-mul_left, mul-le-mul_right, le_trans}
use lib.Dec.{eqb, ltb}
use lib.ListN.{length}
use borrow.Author.Tests.{lt-ltb, le-ltb, eq-eqb, ne_eqb}
use Rattle.words.specs.Words.{word_at}
use Rattle.diagram.specs.Answer.{Answer, refusal, pass}
use Rattle.diagram.specs.Rules.{wrong_root, check_header_of}
use Rattle.diagram.specs.Reading.{IsHeader}

-- the places that are needed, counted in 64 bits
pub need_fits : (each N : ℕ) → each ≤ 64 → N ≤ 65535 → each * N ≤ 4194240
need_fits each N p q = le_trans (mul-le-mul_right N p) (mul-le-mul_left 64 q)

module _ (loose : Bool) (t : List ℕ) (lent : ℕ) (need : ℕ → ℕ) where
  pub too_short : length t < 8 → refusal 1 0 ≡ check_header_of loose t lent need
  unfolding check_header_of
  too_short l = rw (lt-ltb (length t) 8 l)

  module _ (long : 8 ≤ length t) (n N e : ℕ) (h : IsHeader (word_at t) n N e) where
    -- what is left after each rule
    left10 : Answer (Unit {0})
    left10 = cond (ltb lent (need N)) (refusal 10 0) pass

    left3 : Answer (Unit {0})
    left3 = cond (wrong_root loose (e / 2) N) (refusal 3 0) left10

    left1 : Answer (Unit {0})
    left1 = cond (not (eqb (length t) (8 * (N + 1)))) (refusal 1 0) left3

    at2 : check_header_of loose t lent need ≡ cond (ltb 65535 N) (refusal 2 0) left1
    unfolding check_header_of left1 left3 left10
    at2 = rw (le-ltb (length t) 8 long, ← h.nodes_is, ← h.root_is)

    pub too_many : 65535 < N → refusal 2 0 ≡ check_header_of loose t lent need
    too_many l = sym (at2 ∙ rw (lt-ltb 65535 N l))

    module _ (few : N ≤ 65535) where
      at1 : check_header_of loose t lent need ≡ left1
      at1 = at2 ∙ rw (le-ltb 65535 N few)

      pub wrong_length : (length t ≡ 8 * (N + 1) → ⊥) → refusal 1 0 ≡ check_header_of loose t lent need
      unfolding left1
      wrong_length q = sym (at1 ∙ rw (ne_eqb (length t) (8 * (N + 1)) q))

      module _ (fits : length t ≡ 8 * (N + 1)) (v : ℕ) (v-is : v ≡ e / 2) (wrong : Bool) (wrong-is : wrong ≡ wrong_root loose v N) where
        at3 : check_header_of loose t lent need ≡ left3
        unfolding left1
        at3 = at1 ∙ rw (eq-eqb (length t) (8 * (N + 1)) fits)

        pub wrong_root_lem : wrong ≡ true → refusal 3 0 ≡ check_header_of loose t lent need
        unfolding left3
        wrong_root_lem q = sym (at3 ∙ rw (← v-is, ← wrong-is, q))

        module _ (right : wrong ≡ false) where
          at10 : check_header_of loose t lent need ≡ left10
          unfolding left3
          at10 = at3 ∙ rw (← v-is, ← wrong-is, right)

          pub too_few : lent < need N → refusal 10 0 ≡ check_header_of loose t lent need
          unfolding left10
          too_few l = sym (at10 ∙ rw (lt-ltb lent (need N) l))

          pub header_passes : need N ≤ lent → pass ≡ check_header_of loose t lent need
          unfolding left10
          header_passes l = sym (at10 ∙ rw (le-ltb lent (need N) l))
