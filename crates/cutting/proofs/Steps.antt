-- A step of a cut, in the terms of the code. Assumes nothing.
use Prim.Native.Nat.{ℕ, zero, suc, ◌+◌, ◌-◌, ◌*◌, ◌/◌, ◌%◌, ◌≤◌, ◌<◌}
use mathlib.Core.Path.{◌≡◌, sym, ap, ap₂, ◌∙◌}
use mathlib.Core.Bool.{Bool, true, false, not, cond, beq}
use native.Mathlib.Omega.{arith}
use native.Mathlib.Nat.{sub-zero, sub_self, le_refl}
use lib.Dec.{eqb, ltb}
use borrow.Author.Tests.{ne_eqb}
use Rattle.diagram.specs.Format.{Words, middle_field, low_field, height, then_edge, else_edge}
use Rattle.diagram.specs.Meaning.{bit}
use Rattle.diagram.specs.Reading.{record_of, cofactor}
use Rattle.diagram.proofs.Paths.{side}
use Rattle.diagram.proofs.Edges.{turn_lt}
use Rattle.cutting.specs.Cut.{follow, cut_edge, cut_other, cut_record, IsStep}
use Rattle.cutting.proofs.Follow.{choose, follow_next}

-- a cofactor of an edge of 29 bits has 29 bits
cofactor_small : (w : Words) (h : ℕ) (b : Bool) (e : ℕ) → e < 536870912 → cofactor w h b e < 536870912
unfolding cofactor then_edge else_edge middle_field low_field
cofactor_small w h b e l =
    choose (λ a. a < 536870912) (ltb (height w (e / 2)) h) l
    (turn_lt (e % 2) (side w b (e / 2)) 268435456 (choose (λ a. a < 536870912) b (omega arith) (omega arith)))

-- the record of a cut's node of height h, where the bound has setting b and goes on by `next`, and leaves `rest`
abbrev pub node_word : ℕ → ℕ → Bool → Bool → ℕ → ℕ → ℕ
node_word B h b lower next rest =
    cond b (record_of h (cond (eqb (h - 1) 0) next (2 * (B + (h - 1)))) (cond (beq b lower) 1 rest))
    (record_of h (cond (beq b lower) 1 rest) (cond (eqb (h - 1) 0) next (2 * (B + (h - 1)))))

-- the cut's record is that word
pub record_parts : (w : Words) (B n bound : ℕ) (lower : Bool) (r h p : ℕ) → 0 < h → h ≤ n → p ≡ follow w n bound r (n - h)
    → cut_record w B n bound lower r h ≡ node_word B h (bit h bound) lower (cofactor w h (bit h bound) p) (cofactor w h (not (bit h bound)) p)
unfolding cut_record cut_edge cut_other
record_parts w B n bound lower r h p some low e =
    ap₂ (λ (x y : ℕ). cond (bit h bound) (record_of h x y) (record_of h y x)) (inner h some low e)
    (ap (λ (a : ℕ). cond (beq (bit h bound) lower) 1 (cofactor w h (not (bit h bound)) a)) (sym e))
  where
    inner : (h : ℕ) → 0 < h → h ≤ n → p ≡ follow w n bound r (n - h)
        → cond (eqb (h - 1) 0) (follow w n bound r n) (2 * (B + (h - 1))) ≡ cond (eqb (h - 1) 0) (cofactor w h (bit h bound) p) (2 * (B + (h - 1)))
    inner zero some low e = absurd (omega arith)
    inner (suc zero) some low e = ap (follow w n bound r) (sym (sub-zero n)) ∙ follow_next w n bound r 0 low ∙ ap (cofactor w 1 (bit 1 bound)) (sym e)
    inner (suc (suc g)) some low e = rw (ne_eqb (suc (suc g) - 1) 0 (λ q. omega arith))

-- the path's first edge
pub follow_none : (w : Words) (h bound p : ℕ) → p ≡ follow w h bound p (h - h)
unfolding follow
follow_none w h bound p = ap (follow w h bound p) (sym (sub_self h))

-- from the cofactors of the edge p
module _ (w : Words) (B bound : ℕ) (lower : Bool) (h p : ℕ) (on : Bool) (on_is : on ≡ bit h bound) (high low : ℕ) (high_is : high ≡ cofactor w h true p) (low_is : low ≡ cofactor w h false p)
    (next rest : ℕ) (next_is : next ≡ cond on high low) (rest-is : rest ≡ cond (not on) high low)
    (inner outer : ℕ) (inner-is : inner ≡ cond (eqb (h - 1) 0) next (2 * (B + (h - 1)))) (outer-is : outer ≡ cond (beq on lower) 1 rest) where
  half : (b : Bool) → cond b high low ≡ cofactor w h b p
  half true = high_is
  half false = low_is

  next_half : next ≡ cofactor w h (bit h bound) p
  next_half = next_is ∙ half on ∙ ap (λ (b : Bool). cofactor w h b p) on_is

  rest_half : rest ≡ cofactor w h (not (bit h bound)) p
  rest_half = rest-is ∙ half (not on) ∙ ap (λ (b : Bool). cofactor w h (not b) p) on_is

  -- the edges fit a field
  pub step_small : h ≤ 63 → B < 134217728 → p < 536870912 → (inner < 536870912) × (outer < 536870912)
  step_small few room l = (
    rw inner-is (choose (λ a. a < 536870912) (eqb (h - 1) 0) (rw next_half (cofactor_small w h (bit h bound) p l)) (omega arith)),
    rw outer-is (choose (λ a. a < 536870912) (beq on lower) (omega arith) (rw rest_half (cofactor_small w h (not (bit h bound)) p l))),
  )

  -- the word is the one of the step
  pub step_is : 0 < h → (word : ℕ) → word ≡ cond on (record_of h inner outer) (record_of h outer inner) → IsStep w B bound lower h p word next
  step_is some word e = record {
    word_is = e ∙ rw (inner-is, outer-is, on_is, next_half, rest_half) (sym (record_parts w B h bound lower p h p some (le_refl h) (follow_none w h bound p)));
    next_is = next_half;
  }
