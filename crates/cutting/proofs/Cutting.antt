-- The loop that makes a cut, from the highest setting down. Assumes nothing.
use Prim.Native.Nat.{ℕ, suc, ◌+◌, ◌-◌, ◌*◌, ◌/◌, ◌≤◌, ◌<◌}
use mathlib.Core.Path.{◌≡◌, refl, sym, ap, ap₂, ◌∙◌, subst}
use mathlib.Core.Bool.{Bool, not}
use mathlib.Core.List.{List}
use native.Mathlib.Omega.{arith}
use native.Mathlib.Nat.{le_refl}
use lib.ListN.{length, set}
use borrow.Author.Tests.{ne_eqb}
use Rattle.words.proofs.Cases.{less, same, more, tri}
use Rattle.diagram.specs.Format.{Words, then_edge, else_edge}
use Rattle.diagram.specs.Meaning.{bit}
use Rattle.diagram.specs.Ordered.{Ordered}
use Rattle.diagram.specs.Reading.{cofactor}
use Rattle.diagram.proofs.Agree.{agree_height}
use Rattle.cutting.specs.Cut.{extended, follow, cut_edge, cut_record, IsStep, Cut}
use Rattle.cutting.proofs.Behind.{set_here, set_other}
use Rattle.cutting.proofs.Follow.{follow_next, path_inside}
use Rattle.cutting.proofs.Steps.{node_word, record_parts, follow_none}

-- the records above height h are written, and the bound has led to edge p
pub record Cutting (w : Words) (n B bound r : ℕ) (lower : Bool) (h p : ℕ) (w' : Words) : Type 0 where
  pub as_before : (k : ℕ) → k ≤ B → w' k ≡ w k
  pub records : (g : ℕ) → h < g → g ≤ n → w' (B + g) ≡ cut_record w B n bound lower r g
  pub path : p ≡ follow w n bound r (n - h)

-- before the first step
pub cutting_start : (w : Words) (n B bound r : ℕ) (lower : Bool) → Cutting w n B bound r lower n r w
cutting_start w n B bound r lower = record {
  as_before = λ k l. refl;
  records = λ g a b. absurd (omega arith);
  path = follow_none w n bound r;
}

-- after the last one
pub cutting_end : (w : Words) (n B bound r : ℕ) (lower : Bool) (h p : ℕ) (w' : Words) → h < 1 → Cutting w n B bound r lower h p w' → Cut w n B bound r lower w'
cutting_end w n B bound r lower h p w' z C = record { as_before = C.as_before; records = λ g a b. C.records g (omega arith) b }

-- the path's edge leads to a node from before
pub cutting_inside : (w : Words) (n B bound r : ℕ) (lower : Bool) (h p : ℕ) (w' : Words) → Ordered w n B → r / 2 ≤ B → Cutting w n B bound r lower h p w' → p / 2 ≤ B
cutting_inside w n B bound r lower h p w' D inside C = rw C.path (path_inside w n B D bound r inside h)

-- the cut's edge
pub end_none : (w : Words) (B n bound r : ℕ) → n ≡ 0 → r ≡ cut_edge w B n bound r n
unfolding cut_edge follow
end_none w B n bound r e = rw e

pub end_some : (w : Words) (B n bound r e : ℕ) → (n ≡ 0 → ⊥) → e ≡ 2 * (B + n) + 0 → e ≡ cut_edge w B n bound r n
unfolding cut_edge
end_some w B n bound r e z q = q ∙ rw (ne_eqb n 0 z) (omega arith)

-- words that agree have the same cofactors
cofactor_agree : (w w' : Words) (B : ℕ) → ((k : ℕ) → k ≤ B → w' k ≡ w k) → (h : ℕ) (b : Bool) (e : ℕ) → e / 2 ≤ B → cofactor w' h b e ≡ cofactor w h b e
unfolding cofactor then_edge else_edge
cofactor_agree w w' B f h b e l = rw (f (e / 2) l, agree_height w' w B (λ k m. f (suc k) m) (e / 2) l)

-- a step at height h
module _ (w : Words) (n B bound r : ℕ) (lower : Bool) (h p : ℕ) (w' : Words) (D : Ordered w n B) (inside : r / 2 ≤ B) (C : Cutting w n B bound r lower h p w') (some : 0 < h) (low : h ≤ n)
    (word next : ℕ) (S : IsStep w' B bound lower h p word next) where
  half : (b : Bool) → cofactor w' h b p ≡ cofactor w h b p
  half b = cofactor_agree w w' B C.as_before h b p (cutting_inside w n B bound r lower h p w' D inside C)

  step_path : next ≡ follow w n bound r (n - (h - 1))
  step_path =
      let e : suc (h - 1) ≡ h = omega arith in
      S.next_is ∙ half (bit h bound) ∙ ap (cofactor w h (bit h bound)) C.path
      ∙ sym (subst (λ (g : ℕ). follow w n bound r (n - (h - 1)) ≡ cofactor w g (bit g bound) (follow w n bound r (n - g))) e (follow_next w n bound r (h - 1) (omega arith)))

  step_record : word ≡ cut_record w B n bound lower r h
  step_record =
      S.word_is ∙ record_parts w' B h bound lower p h p some (le_refl h) (follow_none w' h bound p)
      ∙ ap₂ (λ (x y : ℕ). node_word B h (bit h bound) lower x y) (half (bit h bound)) (half (not (bit h bound)))
      ∙ sym (record_parts w B n bound lower r h p some low C.path)

  cutting_next : (w'' : Words) → w'' (B + h) ≡ word → ((k : ℕ) → (k ≡ B + h → ⊥) → w'' k ≡ w' k) → Cutting w n B bound r lower (h - 1) next w''
  cutting_next w'' here other = record {
    as_before = λ k l. other k (λ q. omega arith) ∙ C.as_before k l;
    records = λ g l m. elim (tri g h) [
      | less q ↦ absurd (omega arith)
      | same q ↦ rw q (here ∙ step_record)
      | more q ↦ other (B + g) (λ e. omega arith) ∙ C.records g q m
    ];
    path = step_path;
  }

-- ... whose node is stored behind the table, of N nodes
pub cut_down : (w t : Words) (n M N skip bound r : ℕ) (lower : Bool) (h p : ℕ) (l : List ℕ) → N ≡ M → Ordered w n (M + skip) → r / 2 ≤ M + skip
    → Cutting w n (M + skip) bound r lower h p (extended t N l) → 0 < h → h ≤ n → (word next : ℕ) → IsStep (extended t N l) (M + skip) bound lower h p word next
    → skip + h < length l → Cutting w n (M + skip) bound r lower (h - 1) next (extended t N (set l (skip + h) word))
cut_down w t n M N skip bound r lower h p l N_is D inside C some low word next S room =
    let e : N + (skip + h) ≡ M + skip + h = omega (arith, N_is) in
    cutting_next w n (M + skip) bound r lower h p (extended t N l) D inside C some low word next S (extended t N (set l (skip + h) word))
    (rw e at (set_here t N l (skip + h) word (omega arith) room))
    (λ k z. set_other t N l (skip + h) word (omega arith) k (λ q. z (omega (arith, N_is))))
