-- Rules 17 and 14 over a whole list of ranks, and the setup of each. Assumes nothing.
use Prim.Native.Nat.{ℕ, zero, suc, ◌+◌, ◌-◌, ◌^◌, ◌≤◌, ◌<◌}
use mathlib.Core.Path.{◌≡◌, refl, sym, subst, ◌∙◌}
use mathlib.Core.Bool.{Bool}
use mathlib.Core.Option.{some}
use native.Mathlib.Omega.{arith}
use lib.Dec.{ltb}
use borrow.Author.Tests.{ltb-false, lt-ltb, le-ltb}
use Rattle.words.proofs.Cases.{less, same, more, tri, passed}
use Rattle.diagram.specs.Count.{count_below, select}
use Rattle.diagram.specs.Answer.{refusal, and_then, pass, each}
use Rattle.diagram.proofs.AnswerLaws.{refused_not, each_all, each_next, all_each, each_refused}
use Rattle.diagram.proofs.Select.{ranked}
use Rattle.ranking.proofs.Answering.{too_high, unranked_to}
use Rattle.ranking.proofs.Numbering.{selects_unrank}
use Rattle.lists.specs.Operations.{check_rise, check_rising, at_place, check_rank, check_ranks, value_of, setup_at}
use Rattle.lists.specs.Inner.{Rising, Parted}

-- rule 17
module _ (ranks : ℕ → ℕ) where
  -- one rank alone does not fall
  pub rising_one : check_rising ranks 1 ≡ pass
  unfolding check_rising each
  rising_one = refl

  -- the first i of m ranks pass, and rank i is the next
  module _ (i m : ℕ) (some : 0 < i) (before : check_rising ranks i ≡ pass) where
    step : i - 1 + 1 ≡ i
    step = omega arith

    pub rising_falls : i < m → ranks i < ranks (i - 1) → refusal 17 (i + 1) ≡ check_rising ranks m
    unfolding check_rise check_rising
    rising_falls l f =
        let p : i - 1 + 2 ≡ i + 1 = omega arith in
        let q : check_rise ranks (i - 1) ≡ refusal 17 (i + 1) = rw (step, lt-ltb (ranks i) (ranks (i - 1)) f, p) in
        sym (each_refused (check_rise ranks) (m - 1) (i - 1) 17 (i + 1) (omega arith) before q)

    pub rising_next : ranks (i - 1) ≤ ranks i → check_rising ranks (i + 1) ≡ pass
    unfolding check_rise check_rising
    rising_next l =
        let e : i + 1 - 1 ≡ suc (i - 1) = omega arith in
        rw e (each_next (check_rise ranks) (i - 1) before ∙ rw (step, le-ltb (ranks i) (ranks (i - 1)) l))

    pub rising_all : m ≤ i → i - 1 ≤ m - 1 → pass ≡ check_rising ranks m
    unfolding check_rising
    rising_all l q = let e : i - 1 ≡ m - 1 = omega arith in sym (subst (λ (k : ℕ). each (check_rise ranks) k ≡ pass) e before)

  -- ranks that pass never fall
  pub rising_list : (m : ℕ) → check_rising ranks m ≡ pass → Rising ranks m
  unfolding check_rise check_rising
  rising_list m e i zero l u = let z : i ≡ 0 = omega arith in rw z (omega arith)
  rising_list m e i (suc j) l u =
      elim (tri i (suc j)) [
        | less q ↦ omega (arith, rising_list m e i j (omega arith) (omega arith), up)
        | same q ↦ rw q (omega arith)
        | more q ↦ absurd (omega arith)
      ]
    where
      up : ranks j ≤ ranks (suc j)
      up =
          let s : j + 1 ≡ suc j = omega arith in
          let a = passed (ltb (ranks (j + 1)) (ranks j)) refused_not (each_all (check_rise ranks) (m - 1) e j (omega arith)) in
          rw (← s) (ltb-false (ranks (j + 1)) (ranks j) a.0)

-- ranks parted from the end: those from i on are not below c
module _ (ranks : ℕ → ℕ) (m c i : ℕ) (some : i ≤ m) (above : (j : ℕ) → i ≤ j → j < m → c ≤ ranks j) where
  pub parted_here : 0 < i → Rising ranks m → ranks (i - 1) < c → Parted ranks m c i
  parted_here l rises u = record { some = some; below = λ j v. omega (arith, rises j (i - 1) (omega arith) (omega arith)); above = above }

  pub parted_down : 0 < i → c ≤ ranks (i - 1) → (j : ℕ) → i - 1 ≤ j → j < m → c ≤ ranks j
  parted_down l u j v b =
      elim (tri j (i - 1)) [ less q ↦ absurd (omega arith) | same q ↦ rw q u | more q ↦ above j (omega arith) b ]

  pub parted_none : i ≤ 0 → Parted ranks m c 0
  parted_none z = record { some = omega arith; below = λ j v. absurd (omega arith); above = λ j v b. above j (omega arith) b }

-- rule 14, and the setups
module _ (ranks : ℕ → ℕ) (n : ℕ) (P : ℕ → Bool) where
  -- the setup of a rank
  pub setup_is : (i x : ℕ) → select P (2 ^ n) (ranks i) ≡ some x → x ≡ setup_at ranks n P i
  unfolding setup_at value_of
  setup_is i x q = rw (← (unranked_to n (ranks i) P x q))

  has_setup : (i : ℕ) → ranks i < count_below P (2 ^ n) → check_rank ranks n P i ≡ pass
  unfolding check_rank at_place and_then
  has_setup i l = let s = ranked P (2 ^ n) (ranks i) l in rw (selects_unrank n P s.0 (ranks i) s.1)

  has_none : (i : ℕ) → count_below P (2 ^ n) ≤ ranks i → check_rank ranks n P i ≡ refusal 14 (i + 1)
  unfolding check_rank at_place and_then
  has_none i l = rw (← (too_high n (ranks i) P l))

  module _ (m c fine : ℕ) (c-is : c ≡ count_below P (2 ^ n)) (S : Parted ranks m c fine) where
    first : each (check_rank ranks n P) fine ≡ pass
    first = all_each (check_rank ranks n P) fine (λ i l. has_setup i (omega (arith, S.below i l, c-is)))

    -- each has a setup
    pub all_fine : m ≤ fine → (i : ℕ) → i < m → ranks i < count_below P (2 ^ n)
    all_fine l i u = omega (arith, S.below i (omega arith), c-is)

    pub ranks_high : fine < m → check_ranks ranks m n P ≡ refusal 14 (fine + 1)
    unfolding check_ranks
    ranks_high l = each_refused (check_rank ranks n P) m fine 14 (fine + 1) l first (has_none fine (omega (arith, S.above fine (omega arith) l, c-is)))

    pub ranks_fine : m ≤ fine → check_ranks ranks m n P ≡ pass
    unfolding check_ranks
    ranks_fine l = let e : fine ≡ m = omega (arith, S.some) in subst (λ (k : ℕ). each (check_rank ranks n P) k ≡ pass) e first
