-- A setup leaves a node: what it passes over, and what is left, in the terms of the code. Assumes nothing.
use Prim.Native.Nat.{ℕ, ◌+◌, ◌-◌, ◌*◌, ◌/◌, ◌%◌, ◌^◌, ◌≤◌, ◌<◌}
use mathlib.Core.Path.{◌≡◌, sym, ap, ◌∙◌}
use mathlib.Core.List.{List}
use native.Mathlib.Nat.{zero-add, le_of_lt}
use native.Mathlib.Omega.{arith}
use Rattle.words.specs.Words.{word_at}
use Rattle.diagram.specs.Format.{Words, height, else_edge}
use Rattle.diagram.specs.Meaning.{plain, under}
use Rattle.diagram.specs.Count.{count_below}
use Rattle.diagram.specs.Reading.{IsRecord, Within}
use Rattle.diagram.proofs.Bits.{one_shl, pow_halves}
use Rattle.diagram.proofs.Paths.{Lower}
use Rattle.diagram.proofs.Inside.{inside_tall, high_lower, low_lower}
use Rattle.diagram.proofs.Counts.{below_else, below_then}
use Rattle.counting.specs.Inner.{Filled, Opens}
use Rattle.counting.proofs.Shares.{filled_below}
use Rattle.smaller.specs.Inner.{IsStep}

module _ (t s : List ℕ) (k y h a b : ℕ) (p : 0 < k) (F : Filled t s k) (l : y < 2 ^ height (word_at t) k) (r : IsRecord (word_at t) k h a b) where
  abbrev w : Words
  w = word_at t

  W : Within t k
  W = F.within

  pub tall : 0 < h
  tall = inside_tall t k h a b p W r

  half : 1 * 2 ^ (h - 1) % 18446744073709551616 ≡ 2 ^ (h - 1)
  half = one_shl (h - 1) (omega (arith, r.low))

  low_node : Lower w k b
  low_node = low_lower t k h a b p W r

  -- the else-edge can be counted
  pub low_opens : Opens t s b (h - 1)
  low_opens = record {
    filled = filled_below t s k F (b / 2) (omega (arith, low_node.node));
    low = omega (arith, low_node.low, r.height_is);
    few = omega (arith, r.low);
  }

  goes : (e c rest : ℕ) → Lower w k e → count_below (plain w k) y ≡ c + count_below (under w e) rest → IsStep w k y e c rest
  goes e c rest o q = record { node = o.node; low = o.low; sum = q }

  pub step_low : y < 1 * 2 ^ (h - 1) % 18446744073709551616 → IsStep w k y b 0 y
  step_low i =
      let j : y < 2 ^ (h - 1) = rw half at i in
      let q = below_else w W.settings W.nodes W.holds.ordered k y p W.inside (rw (← r.height_is) (le_of_lt j)) in
      goes b 0 y low_node (rw r.else_is (q ∙ sym (zero-add (count_below (under w (else_edge w k)) y))))

  pub step_high : 1 * 2 ^ (h - 1) % 18446744073709551616 ≤ y → (c : ℕ) → c ≡ count_below (under w b) (2 ^ (h - 1)) → IsStep w k y a c (y - 1 * 2 ^ (h - 1) % 18446744073709551616)
  step_high i c q =
      let j : 2 ^ (h - 1) ≤ y = rw half at i in
      let u : y < 2 ^ (h - 1) + 2 ^ (h - 1) = omega (arith, pow_halves h tall, ap (λ (g : ℕ). 2 ^ g) r.height_is) in
      let v : 2 ^ (h - 1) + (y - 2 ^ (h - 1)) ≡ y = omega arith in
      let o = below_then w W.settings W.nodes W.holds.ordered k (y - 2 ^ (height w k - 1)) p W.inside (rw (← r.height_is) (omega arith)) in
      rw half
      (goes a c (y - 2 ^ (h - 1)) (high_lower t k h a b p W r)
      (ap (count_below (plain w k)) (sym v) ∙ rw (q, r.height_is, r.then_is, r.else_is) o))
