-- Numbers in places, least significant byte first, as the code loads and stores them. Assumes nothing.
use Rattle.std.proofs.Common.{◌≡◌, ℕ, suc, ◌+◌, ◌*◌, ◌%◌, ◌<◌, ◌≤◌, List, length, sym, refl, ap, ◌∙◌, subst, arith}
use Rattle.words.specs.Words.{word_at, put_word}
use Rattle.words.specs.Swap.{swap}
use Rattle.words.proofs.Cases.{less, same, more, tri}
use Rattle.words.proofs.Swaps.{swap_swap, swap_fits}
use Rattle.words.proofs.Stores.{stored, stored_long}
use Rattle.rows.specs.Inner.{from, Mixes}
use Rattle.rows.proofs.Modular.{Same}

-- a number fits
pub from_fits : (s : List ℕ) (p i : ℕ) → from s p i < 18446744073709551616
unfolding from
from_fits s p i = swap_fits (word_at s (p + i))

-- from the next place on
pub from_next : (s : List ℕ) (p i : ℕ) → from s (p + 1) i ≡ from s p (suc i)
unfolding from
from_next s p i = let e : p + 1 + i ≡ p + suc i = omega arith in ap (λ (q : ℕ). swap (word_at s q)) e

-- words that stay are numbers that stay
pub from_stays : (s s' : List ℕ) (p i q : ℕ) → word_at s' q ≡ word_at s q → q ≡ p + i → from s' p i ≡ from s p i
unfolding from
from_stays s s' p i q e q-is = ap swap (subst (λ (k : ℕ). word_at s' k ≡ word_at s k) q-is e)

-- what is loaded
pub loaded : (s : List ℕ) (p i v : ℕ) → v < 18446744073709551616 → swap v ≡ word_at s (p + i) → v ≡ from s p i
unfolding from
loaded s p i v l e = sym (swap_swap v l) ∙ ap swap e

-- what is stored
module _ (s s' : List ℕ) (q v : ℕ) (long : 8 * q + 8 ≤ length s) (is : s' ≡ put_word s q (swap v)) where
  pub store_here : (p i : ℕ) → q ≡ p + i → v < 18446744073709551616 → from s' p i ≡ v
  unfolding from
  store_here p i e l = ap (λ (k : ℕ). swap (word_at s' k)) (sym e) ∙ ap swap (stored s s' q (swap v) is long (swap_fits v)).here ∙ swap_swap v l

  pub store_other : (p : ℕ) → (p ≡ q → ⊥) → word_at s' p ≡ word_at s p
  store_other p n = (stored s s' q (swap v) is long (swap_fits v)).other p n

  pub store_long : length s' ≡ length s
  store_long = stored_long s s' q (swap v) is long

-- so far i entries are mixed, of what stood there at first: one more
module _ (s₀ s : List ℕ) (to high plus minus i : ℕ) (M : Mixes s₀ s to high plus minus i) where
  reads : (p v : ℕ) → p + i < to → v < 18446744073709551616 → swap v ≡ word_at s (p + i) → v ≡ from s₀ p i
  reads p v l fits e = loaded s p i v fits e ∙ from_stays s₀ s p i (p + i) (M.before (p + i) l) refl

  module _ (h-low : high + i < to) (p_low : plus + i < to) (m-low : minus + i < to) (a b d sum r : ℕ)
      (a-fits : a < 18446744073709551616) (a-is : swap a ≡ word_at s (high + i)) (b-fits : b < 18446744073709551616) (b-is : swap b ≡ word_at s (plus + i))
      (d-fits : d < 18446744073709551616) (d-is : swap d ≡ word_at s (minus + i)) (sum_is_lem : sum ≡ (a + b) % 18446744073709551616)
      (r-fits : r < 18446744073709551616) (r-is : (r + d) % 18446744073709551616 ≡ sum) (long : 8 * (to + i) + 8 ≤ length s) (s' : List ℕ) (is : s' ≡ put_word s (to + i) (swap r)) where
    made_here : Same (from s' to i + from s₀ minus i) (from s₀ high i + from s₀ plus i)
    made_here =
        rw (store_here s s' (to + i) r long is to i refl r-fits, ← (reads minus d m-low d-fits d-is), ← (reads high a h-low a-fits a-is), ← (reads plus b p_low b-fits b-is))
        (r-is ∙ sum_is_lem)

    pub mixed_next : Mixes s₀ s' to high plus minus (i + 1)
    mixed_next = record {
      before = λ p l. store_other s s' (to + i) r long is p (λ e. omega arith) ∙ M.before p l;
      made = λ j l. elim (tri j i) [
        | less q ↦ ap (λ (x : ℕ). (x + from s₀ minus j) % 18446744073709551616) (from_stays s s' to j (to + j) (store_other s s' (to + i) r long is (to + j) (λ e. omega arith)) refl) ∙ M.made j q
        | same q ↦ rw q made_here
        | more q ↦ absurd (omega arith)
      ];
    }

-- none so far
pub mixed_none : (s : List ℕ) (to high plus minus : ℕ) → Mixes s s to high plus minus 0
mixed_none s to high plus minus = record { before = λ p l. refl; made = λ i l. absurd (omega arith) }
