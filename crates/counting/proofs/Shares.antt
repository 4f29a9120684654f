-- Counting by the shares of 2 ^ 63 in the places, in the terms of the code. Assumes nothing.
use Prim.Native.Nat.{ℕ, ◌+◌, ◌-◌, ◌*◌, ◌/◌, ◌%◌, ◌^◌, ◌≤◌, ◌<◌}
use mathlib.Core.Path.{◌≡◌, sym, ap, ◌∙◌}
use mathlib.Core.Bool.{Bool, true, false}
use mathlib.Core.List.{List}
use native.Mathlib.Omega.{arith}
use native.Mathlib.Nat.{le_refl, mul_comm, mul-div_cancel}
use lib.Dec.{eqb}
use lib.Pow.{pow_pos}
use Rattle.words.specs.Words.{word_at}
use Rattle.words.specs.Swap.{swap}
use Rattle.words.proofs.Swaps.{swap_swap}
use Rattle.diagram.specs.Format.{Words, height}
use Rattle.diagram.specs.Meaning.{under}
use Rattle.diagram.specs.Count.{count_below, place}
use Rattle.diagram.specs.Reading.{IsRecord, opposite, share}
use Rattle.diagram.proofs.Paths.{Lower}
use Rattle.diagram.proofs.Edges.{opposite_set, opposite_clear}
use Rattle.diagram.proofs.Inside.{within_low, within_below, high_lower, low_lower}
use Rattle.diagram.proofs.Counts.{share_edge, count_share, place_share, share_rec}
use Rattle.counting.specs.Inner.{stored, Filled, Next, Opens, Opened, CountsUnder}
use Rattle.counting.proofs.Places.{share_le}

-- a smaller node's places are filled too
pub filled_below : (t s : List ℕ) (k : ℕ) → Filled t s k → (j : ℕ) → j ≤ k → Filled t s j
filled_below t s k F j l = record {
  within = within_below t k F.within j l;
  room = omega (arith, F.room);
  shares = λ i q. F.shares i (omega arith);
}

-- m times c, shifted back by as many
back : (v m c : ℕ) → 0 < m → v ≡ m * c → v / m ≡ c
back v m c p q = ap (λ (x : ℕ). x / m) (q ∙ mul_comm m c) ∙ mul-div_cancel c p

-- the number loaded from a filled place is its node's share
module _ (t s : List ℕ) (k : ℕ) (F : Filled t s k) (v r : ℕ) (r-fits : r < 18446744073709551616) (r-is : swap r ≡ word_at s v) where
  share_held : (j : ℕ) → v ≡ j → j ≤ k → r ≡ share (word_at t) j
  unfolding stored
  share_held j v-is l =
      sym (swap_swap r r-fits) ∙ ap swap (r-is ∙ ap (word_at s) v-is ∙ F.shares j l) ∙ swap_swap (share (word_at t) j) (omega (arith, share_le (word_at t) j))

  -- ... and shifted by the settings above it, its count
  pub settled : (j : ℕ) → v ≡ j → j ≤ k → r / 2 ^ (63 - height (word_at t) j) ≡ place (word_at t) j
  settled j v-is l =
      let W = within_below t k F.within j l in
      back r _ _ (pow_pos (63 - height (word_at t) j)) (share_held j v-is l ∙ place_share (word_at t) W.settings W.nodes W.holds.ordered j W.inside (within_low t j W))

-- the share of an edge to a filled place
module _ (s : List ℕ) (e v r : ℕ) (v-is : v ≡ e / 2) (r-fits : r < 18446744073709551616) (r-is : swap r ≡ word_at s v) where
  pub share_most : (t : List ℕ) → Filled t s (e / 2) → r ≤ 2 ^ 63
  share_most t F = rw (share_held t s (e / 2) F v r r-fits r-is (e / 2) v-is (le_refl (e / 2))) (share_le (word_at t) (e / 2))

  edge_share : (t : List ℕ) → Filled t s (e / 2) → opposite (e % 2) (2 ^ 63) r ≡ count_below (under (word_at t) e) (2 ^ 63)
  edge_share t F = ap (opposite (e % 2) (2 ^ 63)) (share_held t s (e / 2) F v r r-fits r-is (e / 2) v-is (le_refl (e / 2))) ∙ sym (share_edge (word_at t) e)

  pub share_plain : (f : Bool) → f ≡ eqb (e % 2) 1 → f ≡ false → CountsUnder s e 63 r
  share_plain f f-is q t O = sym (opposite_clear e f f-is q (2 ^ 63) r) ∙ edge_share t O.filled

  pub share_flagged : (f : Bool) → f ≡ eqb (e % 2) 1 → f ≡ true → CountsUnder s e 63 (2 ^ 63 - r)
  share_flagged f f-is q t O = sym (opposite_set e f f-is q (2 ^ 63) r) ∙ edge_share t O.filled

-- an edge that can be counted has a share
full : (t s : List ℕ) (e : ℕ) → Filled t s (e / 2) → Opens t s e 63
full t s e F = record { filled = F; low = within_low t (e / 2) F.within; few = le_refl 63 }

pub opened : (s : List ℕ) (e h : ℕ) → Opened s e h → Opened s e 63
opened s e h O = (O.0, full O.0 s e O.1.filled)

-- ... which, shifted, is its count
pub counts_under : (s : List ℕ) (e h c : ℕ) → CountsUnder s e 63 c → CountsUnder s e h (c / 2 ^ (63 - h))
counts_under s e h c c-is t O =
    let F = O.filled in
    let W = F.within in
    back c (2 ^ (63 - h)) _ (pow_pos (63 - h)) (c-is t (full t s e F) ∙ count_share (word_at t) W.settings W.nodes W.holds.ordered e h W.inside O.low O.few)

-- node k, with its record, where the places below it are filled
module _ (t s : List ℕ) (k h a b : ℕ) (p : 0 < k) (R : Next t s k) (r : IsRecord (word_at t) k h a b) where
  abbrev w : Words
  w = word_at t

  lower_filled : (e : ℕ) → Lower w k e → Filled t s (e / 2)
  lower_filled e q = filled_below t s (k - 1) R.below (e / 2) (omega (arith, q.node))

  pub high_filled : Filled t s (a / 2)
  high_filled = lower_filled a (high_lower t k h a b p R.within r)

  low_filled : Filled t s (b / 2)
  low_filled = lower_filled b (low_lower t k h a b p R.within r)

  pub low_opens : Opens t s b 63
  low_opens = full t s b low_filled

  -- the halves of its edges' shares add up to its own, which fits: c is loaded from the place of the then-edge's node v
  pub share_sum : (v c d : ℕ) → v ≡ a / 2 → c < 18446744073709551616 → swap c ≡ word_at s v → CountsUnder s b 63 d
      → (c / 2 + d / 2 ≡ share w k) × (c / 2 + d / 2 < 18446744073709551616)
  unfolding opposite
  share_sum v c d v-is c-fits c-is d-is =
      let W = R.within in
      let plain : a % 2 ≡ 0 = ap (λ (e : ℕ). e % 2) r.then_is ∙ R.plain in
      let high : c ≡ count_below (under w a) (2 ^ 63) = sym (ap (λ (f : ℕ). opposite f (2 ^ 63) c) plain) ∙ edge_share s a v c v-is c-fits c-is t high_filled in
      let low : d ≡ count_below (under w b) (2 ^ 63) = d-is t low_opens in
      let sum : c / 2 + d / 2 ≡ share w k = rw (high, low, r.then_is, r.else_is) (sym (share_rec w W.settings W.nodes W.holds.ordered k p W.inside (within_low t k W))) in
      (sum, omega (arith, sum, share_le w k))
