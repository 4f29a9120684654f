-- Pairs of model and setup in order: counting them model by model. Assumes nothing.
use Prim.Native.Nat.{ℕ, zero, suc, ◌+◌, ◌*◌, ◌/◌, ◌%◌, ◌^◌, ◌≤◌, ◌<◌}
use mathlib.Core.Path.{◌≡◌, ap, ◌∙◌}
use mathlib.Core.Bool.{Bool, true}
use native.Mathlib.Nat.{div-eq_of_lt, mod-eq_of_lt, one-le-pow, suc-mul, zero-mul, add-zero, div-add-mod', div-lt_iff_lt-mul, mul-add-div_right, mul-add-mod_self_right}
use native.Mathlib.Omega.{arith}
use lib.Dec.{lit<}
use Rattle.diagram.specs.Count.{count_below}
use Rattle.pascal.specs.Ones.{sum}
use Rattle.diagram.proofs.CountLaws.{count_cong, count_add, count_le, count_mono_lt}
use Rattle.models.proofs.Sums.{sum_mono, sum_le}
use Rattle.diagram.proofs.Select.{Selected}
use Rattle.models.specs.Pairs.{pair_of, pair_test, sum_counts}

module _ (n : ℕ) where
  some : 0 < 2 ^ n
  some = one-le-pow n 2 (lit< tt)

  -- a pair's model and setup
  pub pair_model : (i x : ℕ) → x < 2 ^ n → pair_of n i x / 2 ^ n ≡ i
  unfolding pair_of
  pair_model i x l = mul-add-div_right some i x ∙ ap (i +◌) (div-eq_of_lt l) ∙ add-zero i

  pub pair_setup : (i x : ℕ) → x < 2 ^ n → pair_of n i x % 2 ^ n ≡ x
  unfolding pair_of
  pair_setup i x l = mul-add-mod_self_right i (2 ^ n) x ∙ mod-eq_of_lt l

  -- ... and a pair by its model and setup
  pub pair_of_lem : (v : ℕ) → pair_of n (v / 2 ^ n) (v % 2 ^ n) ≡ v
  unfolding pair_of
  pair_of_lem v = div-add-mod' v (2 ^ n)

  module _ (P : ℕ → ℕ → Bool) where
    pub pair_permitted : (i x : ℕ) → x < 2 ^ n → pair_test n P (pair_of n i x) ≡ P i x
    unfolding pair_test
    pair_permitted i x l = rw (pair_model i x l, pair_setup i x l)

    -- from the first pair of model i on
    in_model : (i x : ℕ) → x ≤ 2 ^ n → count_below (pair_test n P) (i * 2 ^ n + x) ≡ count_below (pair_test n P) (i * 2 ^ n) + count_below (P i) x
    unfolding pair_of
    in_model i x l = count_add (pair_test n P) (i * 2 ^ n) x ∙ ap (count_below (pair_test n P) (i * 2 ^ n) +◌) (count_cong (λ y. pair_test n P (i * 2 ^ n + y)) (P i) x (λ y q. pair_permitted i y (omega arith)))

    -- all pairs of m models
    pub pairs_all : (m : ℕ) → count_below (pair_test n P) (m * 2 ^ n) ≡ sum_counts n P m
    unfolding sum_counts sum count_below
    pairs_all zero = rw zero-mul
    pairs_all (suc m) = let e : suc m * 2 ^ n ≡ m * 2 ^ n + 2 ^ n = suc-mul m (2 ^ n) in
        ap (count_below (pair_test n P)) e ∙ in_model m (2 ^ n) (omega arith) ∙ ap (◌+ count_below (P m) (2 ^ n)) (pairs_all m)

    -- the pairs before a pair: those of the models before its own, and those of its own with a smaller setup
    pub pairs_before : (i x : ℕ) → x ≤ 2 ^ n → count_below (pair_test n P) (pair_of n i x) ≡ sum_counts n P i + count_below (P i) x
    unfolding pair_of
    pairs_before i x l = in_model i x l ∙ ap (◌+ count_below (P i) x) (pairs_all i)

    -- a permitted setup of a model is a permitted pair, with its number
    pub pair_selected : (m i x : ℕ) → i < m → x < 2 ^ n → P i x ≡ true → Selected (pair_test n P) (m * 2 ^ n) (sum_counts n P i + count_below (P i) x) (pair_of n i x)
    pair_selected m i x l q p = record {
      below = (div-lt_iff_lt-mul some).0 (rw (pair_model i x q) l);
      passes = pair_permitted i x q ∙ p;
      rank = pairs_before i x (omega arith);
    }

    -- the models up to one, and the setups of that up to a permitted one, are not more than all
    pub pair_fits : (m i x : ℕ) → i < m → x < 2 ^ n → P i x ≡ true → sum_counts n P i + count_below (P i) x < sum_counts n P m
    pair_fits m i x l q p = let s = pair_selected m i x l q p in omega (arith, s.rank, count_mono_lt (pair_test n P) s.passes s.below, pairs_all m)

    -- sums of counts grow, and m models have at most m × 2 ^ n
    pub sums_grow : (i m : ℕ) → i ≤ m → sum_counts n P i ≤ sum_counts n P m
    unfolding sum_counts
    sums_grow i m l = sum_mono _ i m l

    pub sums_most : (m : ℕ) → sum_counts n P m ≤ m * 2 ^ n
    unfolding sum_counts
    sums_most m = sum_le _ (2 ^ n) m (λ i l. count_le (P i) (2 ^ n))
