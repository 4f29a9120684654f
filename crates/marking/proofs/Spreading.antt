-- Two marks are stored. Assumes nothing.
use Prim.Native.Nat.{ℕ, ◌+◌, ◌*◌, ◌≤◌, ◌<◌}
use mathlib.Core.Path.{◌≡◌}
use mathlib.Core.Logic.{◌⊎◌, inl, inr}
use mathlib.Core.List.{List}
use native.Mathlib.Omega.{arith}
use lib.ListN.{length}
use Rattle.words.specs.Words.{word_at, put_word}
use Rattle.words.proofs.Cases.{less, same, more, tri}
use Rattle.words.proofs.Stores.{Updated, put_updated, length-put}
use Rattle.diagram.specs.Format.{Words}
use Rattle.marking.specs.Marks.{Spread}

-- what is true of node k, and of the others as they were, where k is marked
marked_at : (P : ℕ → Type 0) (W W' : Words) (k : ℕ) → Updated W W' k 1 → P 1 → (u : ℕ) → P (W u) → P (W' u)
marked_at P W W' k U p u l = elim (tri u k) [
  | less q ↦ rw (U.other u (λ e. omega arith)) l
  | same q ↦ rw (q, U.here) p
  | more q ↦ rw (U.other u (λ e. omega arith)) l
]

-- where there is a mark, there was one, or k is marked
was_marked : (W W' : Words) (k : ℕ) → Updated W W' k 1 → (u : ℕ) → 0 < W' u → (0 < W u) ⊎ (u ≡ k)
was_marked W W' k U u l = elim (tri u k) [
  | less q ↦ inl (rw (U.other u (λ e. omega arith)) at l)
  | same q ↦ inr q
  | more q ↦ inl (rw (U.other u (λ e. omega arith)) at l)
]

-- one mark after the other
spread_updates : (W W₁ W' : Words) (a b : ℕ) → Updated W W₁ a 1 → Updated W₁ W' b 1 → Spread W W' a b
spread_updates W W₁ W' a b P Q = record {
  keeps = λ u l. live W₁ W' b Q u (live W W₁ a P u l);
  only = λ u l. elim (was_marked W₁ W' b Q u l) [ inr e ↦ inr (inr e) | inl m ↦ elim (was_marked W W₁ a P u m) [ inl o ↦ inl o | inr e ↦ inr (inl e) ] ];
  bits = λ u l. small W₁ W' b Q u (small W W₁ a P u l);
  first = live W₁ W' b Q a (rw P.here (omega arith));
  second = rw Q.here (omega arith);
}
  where
    live : (X Y : Words) (k : ℕ) → Updated X Y k 1 → (u : ℕ) → 0 < X u → 0 < Y u
    live X Y k U = marked_at (λ x. 0 < x) X Y k U (omega arith)

    small : (X Y : Words) (k : ℕ) → Updated X Y k 1 → (u : ℕ) → X u ≤ 1 → Y u ≤ 1
    small X Y k U = marked_at (λ x. x ≤ 1) X Y k U (omega arith)

-- in the terms of the code
pub spread : (s s₁ s' : List ℕ) (a b : ℕ) → 8 * a + 8 ≤ length s → 8 * b + 8 ≤ length s → s₁ ≡ put_word s a 1 → s' ≡ put_word s₁ b 1 → Spread (word_at s) (word_at s') a b
spread s s₁ s' a b l m p q =
    rw q (rw p (spread_updates (word_at s) (word_at (put_word s a 1)) (word_at (put_word (put_word s a 1) b 1)) a b (put_updated s a 1 l (omega arith))
    (put_updated (put_word s a 1) b 1 (omega (arith, length-put s a 1 l)) (omega arith))))
