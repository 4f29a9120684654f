-- Expanding a row: sums, zeros, and one free setting more. Assumes nothing.
use Rattle.std.proofs.Common.{◌≡◌, ℕ, zero, suc, ◌+◌, ◌*◌, ◌<◌, ◌≤◌, refl, ap, ap₂, arith}
use Rattle.pascal.specs.Triangle.{binomial}
use Rattle.pascal.proofs.Pascal.{binomial_zero, binomial_past, binomial_last, binomial_sum}
use Rattle.rows.specs.Inner.{expand}
use Rattle.rows.proofs.Modular.{Same, add_same, mul_same}

-- rows that agree up to entry j
pub expand_cong : (a b : ℕ → ℕ) (h j : ℕ) → ((i : ℕ) → i ≤ j → a i ≡ b i) → expand a h j ≡ expand b h j
unfolding expand
expand_cong a b h zero e = e 0 (omega arith)
expand_cong a b zero (suc j) e = e (suc j) (omega arith)
expand_cong a b (suc h) (suc j) e = ap₂ (λ (x y : ℕ). x * binomial (suc h) (suc j) + y) (e 0 (omega arith)) (expand_cong (λ i. a (suc i)) (λ i. b (suc i)) h j (λ i l. e (suc i) (omega arith)))

-- a row of zeros
pub expand_zeros : (h j : ℕ) → expand (λ _. 0) h j ≡ 0
unfolding expand
expand_zeros h zero = refl
expand_zeros zero (suc j) = refl
expand_zeros (suc h) (suc j) = omega (arith, expand_zeros h j)

-- expanding adds up, modulo 2 ^ 64
pub expand_sum : (a b c d : ℕ → ℕ) (h j : ℕ) → ((i : ℕ) → i ≤ j → Same (a i + b i) (c i + d i)) → Same (expand a h j + expand b h j) (expand c h j + expand d h j)
unfolding expand
expand_sum a b c d h zero e = e 0 (omega arith)
expand_sum a b c d zero (suc j) e = e (suc j) (omega arith)
expand_sum a b c d (suc h) (suc j) e =
    let t = binomial (suc h) (suc j) in
    let first = mul_same (a 0 + b 0) (c 0 + d 0) t (e 0 (omega arith)) in
    let rest = expand_sum (λ i. a (suc i)) (λ i. b (suc i)) (λ i. c (suc i)) (λ i. d (suc i)) h j (λ i l. e (suc i) (omega arith)) in
    let parts : (x y X Y : ℕ) → x * t + X + (y * t + Y) ≡ (x + y) * t + (X + Y) = λ x y X Y. omega arith in
    simp parts (add_same _ _ _ _ first rest)

-- a row that ends by entry h: one free setting more
pub expand_more : (a : ℕ → ℕ) (h j : ℕ) → ((i : ℕ) → h < i → i ≤ j → a i ≡ 0) → expand a (suc h) (suc j) ≡ expand a h (suc j) + expand a h j
unfolding expand
expand_more a zero zero e = omega (arith, ap (a 0 *◌) (binomial_last 1))
expand_more a zero (suc j) e = omega (arith, ap (a 0 *◌) (binomial_past 1 (suc (suc j)) (omega arith)), e (suc j) (omega arith) (omega arith))
expand_more a (suc h) zero e = omega (arith, ap (a 0 *◌) (binomial_sum (suc h) 0), ap (a 0 *◌) (binomial_zero (suc h)))
expand_more a (suc h) (suc j) e = omega (arith, ap (a 0 *◌) (binomial_sum (suc h) (suc j)), expand_more (λ i. a (suc i)) h j (λ i l m. e (suc i) (omega arith) (omega arith)))
