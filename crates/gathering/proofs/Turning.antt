-- A turn: the node at word i is done, since the nodes of its edges are met. Assumes nothing.
use Prim.Native.Nat.{ℕ, ◌+◌, ◌/◌, ◌≤◌, ◌<◌}
use mathlib.Core.Path.{◌≡◌, sym, ap, subst, ◌∙◌}
use mathlib.Core.Bool.{Bool, true, false}
use mathlib.Core.List.{List}
use native.Mathlib.Omega.{arith}
use Rattle.words.specs.Words.{word_at}
use Rattle.diagram.specs.Reading.{side}
use Rattle.gathering.specs.Inner.{LooseWithin, mark, Meets, Met}
use Rattle.gathering.proofs.Meeting.{within_place, edge_inside, met_few, met_next, met_word, met_stays, met_done}

module _ (t s : List ℕ) (P i count root v : ℕ) (I : LooseWithin t P v) (M : Met (word_at t) s P i count root) (turn : i < count) where
  some : 0 < P
  some = omega (arith, within_place t P v I)

  pub turn_inside : (x : Bool) → side (word_at t) x (word_at s i) / 2 < P
  turn_inside x = let n = M.nodes i turn in edge_inside t P v I x (word_at s i) n.0 n.1

  module _ (s₂ : List ℕ) (a c₂ : ℕ) (a-is : a ≡ side (word_at t) true (word_at s i) / 2) (X : Meets s s₂ P count a c₂) where
    low : a < P
    low = rw a-is (turn_inside true)

    room : count < P
    room = met_few (word_at t) s P i count root M some

    pub turn_first : Met (word_at t) s₂ P i c₂ root
    turn_first = met_next (word_at t) s s₂ P i count root a c₂ M low room X (λ _. (i, true, turn, sym a-is))

    module _ (s₃ : List ℕ) (b c₃ : ℕ) (b-is : b ≡ side (word_at t) false (word_at s i) / 2) (Y : Meets s₂ s₃ P c₂ b c₃) where
      up : count ≤ c₂
      up = omega (arith, X.counts, M.bits a low)

      word_is : word_at s₂ i ≡ word_at s i
      word_is = met_word (word_at t) s s₂ P i count root a c₂ M low room X (λ _. (i, true, turn, sym a-is)) i turn

      b_low : b < P
      b_low = rw b-is (turn_inside false)

      why : (b ≡ root → ⊥) → (j : ℕ) × (x : Bool) × (j < c₂) × (side (word_at t) x (word_at s₂ j) / 2 ≡ b)
      why _ = (i, false, omega (arith, up), ap (λ (y : ℕ). side (word_at t) false y / 2) word_is ∙ sym b-is)

      room₂ : c₂ < P
      room₂ = met_few (word_at t) s₂ P i c₂ root turn_first some

      second : Met (word_at t) s₃ P i c₃ root
      second = met_next (word_at t) s₂ s₃ P i c₂ root b c₃ turn_first b_low room₂ Y why

      word_last : word_at s₃ i ≡ word_at s i
      word_last = met_word (word_at t) s₂ s₃ P i c₂ root b c₃ turn_first b_low room₂ Y why i (omega (arith, up)) ∙ word_is

      stays : (u : ℕ) → u < P → mark s₂ P u ≡ 1 → mark s₃ P u ≡ 1
      stays = met_stays (word_at t) s₂ s₃ P i c₂ root b c₃ turn_first b_low room₂ Y why

      marked : (x : Bool) → mark s₃ P (side (word_at t) x (word_at s i) / 2) ≡ 1
      marked true = ap (mark s₃ P) (sym a-is) ∙ stays a low X.marked
      marked false = ap (mark s₃ P) (sym b-is) ∙ Y.marked

      pub turn_done : Met (word_at t) s₃ P (i + 1) c₃ root
      turn_done = met_done (word_at t) s₃ P i c₃ root second (omega (arith, up, Y.counts, turn_first.bits b b_low))
          (λ x. subst (λ (y : ℕ). (side (word_at t) x y / 2 < P) × (mark s₃ P (side (word_at t) x y / 2) ≡ 1)) (sym word_last) (turn_inside x, marked x))

      pub turn_marks : (u : ℕ) → u < P → mark s P u ≡ 1 → mark s₃ P u ≡ 1
      turn_marks u l m = stays u l (met_stays (word_at t) s s₂ P i count root a c₂ M low room X (λ _. (i, true, turn, sym a-is)) u l m)
