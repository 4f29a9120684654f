-- The sum that a row expands to, term by term, in the terms of the code. Assumes nothing.
use Rattle.std.proofs.Common.{◌≡◌, ℕ, suc, ◌+◌, ◌-◌, ◌*◌, ◌%◌, ◌<◌, ◌≤◌, List, sym, ap, ◌∙◌, ap₂, arith}
use Rattle.words.specs.Words.{word_at}
use Rattle.words.specs.Swap.{swap}
use Rattle.pascal.specs.Triangle.{binomial}
use Rattle.rows.specs.Inner.{expand, from}
use Rattle.rows.proofs.Modular.{Same}
use Rattle.rows.proofs.Expanding.{expand_cong}
use Rattle.rows.proofs.Placing.{from_next, loaded}

-- the first term, and the others
first_term : (s : List ℕ) (p h j : ℕ) → expand (from s p) (suc h) (suc j) ≡ from s p 0 * binomial (suc h) (suc j) + expand (from s (p + 1)) h j
unfolding expand
first_term s p h j = ap (from s p 0 * binomial (suc h) (suc j) +◌) (expand_cong (λ i. from s p (suc i)) (from s (p + 1)) h j (λ i _. sym (from_next s p i)))

-- what the terms from i on come to, with the sum of those before
abbrev pub Left : List ℕ → ℕ → ℕ → ℕ → ℕ → ℕ → Type 0
Left s at n m sum i = Same (sum + expand (from s (at + i)) (n - i) (m - i)) (expand (from s at) n m)

pub none_summed : (s : List ℕ) (at n m : ℕ) → Left s at n m 0 0
none_summed s at n m =
    let e : at + 0 ≡ at = omega arith in
    let f : n - 0 ≡ n = omega arith in
    let g : m - 0 ≡ m = omega arith in
    rw (e, f, g) (omega arith)

-- a term added, each time modulo 2 ^ 64
added : (sum x rest : ℕ) → Same ((sum + x % 18446744073709551616) % 18446744073709551616 + rest) (sum + (x + rest))
added sum x rest = omega arith

module _ (s : List ℕ) (at n m sum i : ℕ) (so_far : Left s at n m sum i) (v : ℕ) (v-fits : v < 18446744073709551616) where
  -- a term more
  pub summed : i < m → m ≤ n → swap v ≡ word_at s (at + i) → (b t sum' : ℕ) → b ≡ binomial (n - i) (m - i) → t ≡ v * b % 18446744073709551616 → sum' ≡ (sum + t) % 18446744073709551616
      → Left s at n m sum' (i + 1)
  summed l few v-is b t sum' b-is t-is sum_is_lem =
      let h = n - (i + 1) in
      let j = m - (i + 1) in
      let eh : n - i ≡ suc h = omega arith in
      let ej : m - i ≡ suc j = omega arith in
      let ep : at + (i + 1) ≡ at + i + 1 = omega arith in
      let zero-place : at + i ≡ at + i + 0 = omega arith in
      let v-at : v ≡ from s (at + i) 0 = loaded s (at + i) 0 v v-fits (v-is ∙ ap (word_at s) zero-place) in
      let term : v * b ≡ from s (at + i) 0 * binomial (suc h) (suc j) = ap₂ ◌*◌ v-at (b-is ∙ ap₂ binomial eh ej) in
      let all : expand (from s (at + i)) (n - i) (m - i) ≡ v * b + expand (from s (at + i + 1)) h j =
      ap₂ (expand (from s (at + i))) eh ej ∙ first_term s (at + i) h j ∙ ap (◌+ expand (from s (at + i + 1)) h j) (sym term) in
      rw (ep, sum_is_lem, t-is) (added sum (v * b) (expand (from s (at + i + 1)) h j) ∙ ap (λ (x : ℕ). (sum + x) % 18446744073709551616) (sym all) ∙ so_far)

  -- the last entry is the last term
  pub all_summed : i ≡ m → swap v ≡ word_at s (at + m) → (r : ℕ) → r ≡ (sum + v) % 18446744073709551616 → r ≡ expand (from s at) n m % 18446744073709551616
  unfolding expand
  all_summed e v-is r r-is =
      let z : m - i ≡ 0 = omega arith in
      let zero-place : at + m ≡ at + i + 0 = omega arith in
      let last : expand (from s (at + i)) (n - i) (m - i) ≡ v = ap (expand (from s (at + i)) (n - i)) z ∙ sym (loaded s (at + i) 0 v v-fits (v-is ∙ ap (word_at s) zero-place)) in
      r-is ∙ ap (λ (x : ℕ). (sum + x) % 18446744073709551616) (sym last) ∙ so_far
