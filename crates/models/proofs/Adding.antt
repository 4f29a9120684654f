-- The counts of models, one after the other, in the terms of the code. Assumes nothing.
use Prim.Native.Nat.{ℕ, ◌+◌, ◌^◌, ◌≤◌, ◌<◌}
use mathlib.Core.Path.{◌≡◌, refl, sym, ap, ◌∙◌}
use mathlib.Core.Bool.{Bool}
use mathlib.Core.List.{List}
use native.Mathlib.Omega.{arith}
use native.Mathlib.Numerals.{add-one}
use Rattle.words.specs.Words.{word_at}
use Rattle.diagram.specs.Meaning.{under}
use Rattle.diagram.specs.Count.{count_below}
use Rattle.pascal.specs.Ones.{sum}
use Rattle.counting.specs.Inner.{CountsUnder}
use Rattle.models.specs.Pairs.{sum_counts}
use Rattle.models.specs.Inner.{models_of, Rooted, AddsUp}

-- no model, and one more
pub sum_none : (n : ℕ) (P : ℕ → ℕ → Bool) → sum_counts n P 0 ≡ 0
unfolding sum_counts sum
sum_none n P = refl

pub sum_next : (n : ℕ) (P : ℕ → ℕ → Bool) (i : ℕ) → sum_counts n P (i + 1) ≡ sum_counts n P i + count_below (P i) (2 ^ n)
unfolding sum_counts sum
sum_next n P i = rw (add-one i)

-- fewer models can be counted too
pub fewer : {t s r : List ℕ} {n m : ℕ} → Rooted t s r n m → (i : ℕ) → i ≤ m → Rooted t s r n i
fewer R i l = record { long = omega (arith, R.long); opens = λ j q. R.opens j (omega arith) }

-- the count of model i
module _ {t s r : List ℕ} {n m : ℕ} (R : Rooted t s r n m) (i e c : ℕ) (l : i < m) (e-is : e ≡ word_at r i) (c-is : CountsUnder s e n c) where
  pub model_counted : c ≡ count_below (models_of t r i) (2 ^ n)
  model_counted = c-is t (rw e-is (R.opens i l)) ∙ ap (λ (v : ℕ). count_below (under (word_at t) v) (2 ^ n)) e-is

-- none is added
pub adds_none : (s r : List ℕ) (n : ℕ) → AddsUp s r n 0 0
adds_none s r n t R = sym (sum_none n (models_of t r))

-- one more is
pub adds_next : (s r : List ℕ) (n i total total' e c : ℕ) → AddsUp s r n i total → e ≡ word_at r i → CountsUnder s e n c → total' ≡ total + c → AddsUp s r n (i + 1) total'
adds_next s r n i total total' e c A e-is c-is q t R =
    omega (arith, q, A t (fewer R i (omega arith)), model_counted R i e c (omega arith) e-is c-is, sum_next n (models_of t r) i)
