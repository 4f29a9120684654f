-- Rule 15 and the span of a part, in the terms of the code. Assumes nothing.
use Prim.Native.Nat.{ℕ, ◌+◌, ◌-◌, ◌*◌, ◌/◌, ◌%◌, ◌^◌, ◌≤◌, ◌<◌}
use mathlib.Core.Path.{◌≡◌, sym, ap, ◌∙◌}
use mathlib.Core.Bool.{Bool, true, false, ◌||◌}
use native.Mathlib.Omega.{arith}
use native.Mathlib.Nat.{div-add-mod, mul-add-div, mod-lt, mul-le-mul}
use lib.Dec.{eqb, ltb, leb}
use borrow.Author.Tests.{eqb-false, ltb-false, leb-false, lt-ltb, le-ltb, eq-eqb, ne_eqb}
use Rattle.words.proofs.Cases.{or_false}
use Rattle.diagram.specs.Count.{count_below}
use Rattle.diagram.specs.Answer.{Answer, value, refusal}
use Rattle.division.specs.Span.{size, start}
use Rattle.division.specs.Operations.{no_part, span_of}
use Rattle.division.proofs.SpanLaws.{start_end, start_mono}

-- rule 15, test by test
module _ (k j : ℕ) where
  pub none_zero : k ≡ 0 → true ≡ no_part k j
  unfolding no_part
  none_zero e = rw (eq-eqb k 0 e)

  pub none_many : (k ≡ 0 → ⊥) → 65535 < k → true ≡ no_part k j
  unfolding no_part
  none_many n l = rw (ne_eqb k 0 n, lt-ltb 65535 k l)

  pub none_index : (k ≡ 0 → ⊥) → k ≤ 65535 → leb k j ≡ no_part k j
  unfolding no_part
  none_index n l = rw (ne_eqb k 0 n, le-ltb 65535 k l)

  -- where it does not hold, there is a part j of k
  pub some_part : no_part k j ≡ false → (0 < k) × (k ≤ 65535) × (j < k)
  unfolding no_part
  some_part passes =
      let a = or_false (eqb k 0 || ltb 65535 k) (leb k j) passes in
      let d = or_false (eqb k 0) (ltb 65535 k) a.0 in
      let z : k ≡ 0 → ⊥ = eqb-false k 0 d.0 in
      (omega arith, ltb-false 65535 k d.1, leb-false k j a.1)

-- where it holds, it is answered
pub no_such : (k j c : ℕ) (b : Bool) → b ≡ no_part k j → b ≡ true → refusal 15 0 ≡ span_of k j c
unfolding span_of
no_such k j c b b-is holds = rw (← b-is, holds)

-- the start of part j of k, or the end of the last, where j is k: by c = k × (c / k) + c % k
module _ (k j c : ℕ) (ok : (0 < k) × (k ≤ 65535) × (j ≤ k)) where
  pub start_split : j * (c / k) + j * (c % k) / k ≡ start c k j
  unfolding start
  start_split =
      let e : k * (j * (c / k)) + j * (c % k) ≡ j * c = omega (arith, ap (λ x. j * x) (div-add-mod c k)) in
      sym (mul-add-div ok.0 (j * (c / k)) (j * (c % k))) ∙ ap (λ x. x / k) e

  -- it is not past c, and neither is a term of it
  pub split_fits : j * (c / k) + j * (c % k) / k ≤ c
  split_fits = omega (arith, start_split, start_mono c k j k ok.2, start_end c k ok.0)

  -- its remainder is below k
  pub rest_small : c % k ≤ 65535
  rest_small = omega (arith, mod-lt c ok.0)

-- a product of two numbers of 16 bits, as that of j and the remainder, fits 64
pub small_fits : (x y : ℕ) → x ≤ 65535 → y ≤ 65535 → x * y < 2 ^ 64
small_fits x y p q = omega (arith, mul-le-mul p q)

-- part j from its start s to the next one, t
module _ (c k j s t : ℕ) (s-is : s ≡ start c k j) (t-is : t ≡ start c k (j + 1)) where
  pub rises : s ≤ t
  rises = omega (arith, start_mono c k j (j + 1) (omega arith))

  pub size_is : t - s ≡ size c k j
  unfolding size
  size_is = rw (s-is, t-is)

-- its start and its size, where there is such a part of C setups, are answered
pub span_is : (k j c C : ℕ) → c ≡ C → (s z : ℕ) → s ≡ start c k j → z ≡ size c k j → no_part k j ≡ false → value (s, z) ≡ span_of k j C
unfolding span_of
span_is k j c C c-is s z s-is z-is passes = rw (passes, s-is, z-is, c-is)

-- the span by n and the setups that are permitted
abbrev pub span_by : ℕ → ℕ → ℕ → (ℕ → Bool) → Answer (ℕ × ℕ)
span_by k j n P = span_of k j (count_below P (2 ^ n))
