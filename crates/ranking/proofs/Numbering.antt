-- Demand 2, as theorems: ranking and unranking undo each other, ranks rise with the setups, and the numbers below the count are just those that are unranked. Assumes nothing.
use Prim.Native.Nat.{ℕ, ◌-◌, ◌*◌, ◌/◌, ◌^◌, ◌≤◌, ◌<◌}
use mathlib.Core.Path.{◌≡◌, ap}
use mathlib.Core.Bool.{Bool, true, false, cond}
use mathlib.Core.List.{List}
use native.Mathlib.Omega.{arith}
use borrow.Author.Tests.{lt-leb}
use Rattle.words.specs.Words.{word_at}
use Rattle.diagram.specs.Format.{settings}
use Rattle.diagram.specs.Meaning.{permitted}
use Rattle.diagram.specs.Count.{count_below, select, total}
use Rattle.diagram.specs.Answer.{value, refusal, and_then, or_refuse}
use Rattle.diagram.proofs.CountLaws.{count_mono_lt}
use Rattle.diagram.proofs.AnswerLaws.{refused_not, value_inj, or_some, then_some}
use Rattle.diagram.proofs.Select.{Selected, select_some, select_of, ranked}
use Rattle.checking.specs.Operations.{checking, test_setup}
use Rattle.checking.proofs.Answering.{test_is}
use Rattle.descent.specs.Settings.{IsLeft}
use Rattle.descent.proofs.Settings.{selected_left}
use Rattle.ranking.specs.Operations.{rank_setup, ranking, unrank_setup, unranking}

-- setup x has rank r in table t: it is below 2 ^ n, permitted, and exactly r smaller ones are
abbrev pub HasRank : List ℕ → ℕ → ℕ → Type 0
HasRank t x r = Selected (permitted (word_at t)) (2 ^ settings (word_at t)) r x

module _ (n : ℕ) (P : ℕ → Bool) (x r : ℕ) where
  rank_selects : rank_setup x n P ≡ value r → Selected P (2 ^ n) r x
  unfolding rank_setup
  rank_selects e =
      let a = then_some (test_setup x n P) _ e in
      let i = test_is n x P a.0 a.1 in
      go a.0 i.1 i.0 a.2
    where
      go : (b : Bool) → P x ≡ b → x < 2 ^ n → cond b (value (count_below P x)) (refusal 13 0) ≡ value r → Selected P (2 ^ n) r x
      go true p l q = record { below = l; passes = p; rank = value_inj q }
      go false p l q = absurd (refused_not q)

  selects_rank : Selected P (2 ^ n) r x → rank_setup x n P ≡ value r
  unfolding rank_setup test_setup and_then
  selects_rank s = rw (lt-leb (2 ^ n) x s.below, s.passes) (ap value s.rank)

  unrank_selects : unrank_setup r n P ≡ value x → Selected P (2 ^ n) r x
  unfolding unrank_setup
  unrank_selects e = select_some P (2 ^ n) r x (or_some 14 (select P (2 ^ n) r) e)

  pub selects_unrank : Selected P (2 ^ n) r x → unrank_setup r n P ≡ value x
  unfolding unrank_setup or_refuse
  selects_unrank s = rw (select_of P (2 ^ n) r x s)

-- what is ranked or unranked is permitted and has that rank
pub ranked_has : (t s : List ℕ) (x r : ℕ) → ranking t x s ≡ value r → HasRank t x r
unfolding ranking
ranked_has t s x r e = rank_selects (settings (word_at t)) (permitted (word_at t)) x r (then_some (checking t s) _ e).2

pub unranked_has : (t s : List ℕ) (x r : ℕ) → unranking t r s ≡ value x → HasRank t x r
unfolding unranking
unranked_has t s x r e = unrank_selects (settings (word_at t)) (permitted (word_at t)) x r (then_some (checking t s) _ e).2

-- ... and all that has a rank is ranked and unranked, where the check passes
module _ (t s : List ℕ) (v : ℕ × ℕ) (ok : checking t s ≡ value v) (x r : ℕ) (h : HasRank t x r) where
  pub has_ranked : ranking t x s ≡ value r
  unfolding ranking and_then
  has_ranked = rw ok (selects_rank (settings (word_at t)) (permitted (word_at t)) x r h)

  pub has_unranked : unranking t r s ≡ value x
  unfolding unranking and_then
  has_unranked = rw ok (selects_unrank (settings (word_at t)) (permitted (word_at t)) x r h)

-- ranking and unranking undo each other, whichever sheets are lent
module _ (t s s' : List ℕ) (v : ℕ × ℕ) (ok : checking t s' ≡ value v) (x r : ℕ) where
  pub unrank_of_rank : ranking t x s ≡ value r → unranking t r s' ≡ value x
  unrank_of_rank e = has_unranked t s' v ok x r (ranked_has t s x r e)

  pub rank_of_unrank : unranking t r s ≡ value x → ranking t x s' ≡ value r
  rank_of_unrank e = has_ranked t s' v ok x r (unranked_has t s x r e)

-- ranks rise with the setups
pub rank_rises : (t s s' : List ℕ) (x y r q : ℕ) → ranking t x s ≡ value r → ranking t y s' ≡ value q → x < y → r < q
rank_rises t s s' x y r q e f l =
    let a = ranked_has t s x r e in
    let b = ranked_has t s' y q f in
    omega (arith, a.rank, b.rank, count_mono_lt (permitted (word_at t)) a.passes l)

-- every number below the count is unranked, and no other
pub unrank_all : (t s : List ℕ) (v : ℕ × ℕ) → checking t s ≡ value v → (r : ℕ) → r < total (word_at t) → (x : ℕ) × (unranking t r s ≡ value x)
unfolding total
unrank_all t s v ok r l =
    let f = ranked (permitted (word_at t)) (2 ^ settings (word_at t)) r l in
    (f.0, has_unranked t s v ok f.0 r f.1)

pub unrank_only : (t s : List ℕ) (x r : ℕ) → unranking t r s ≡ value x → r < total (word_at t)
unfolding total
unrank_only t s x r e =
    let a = unranked_has t s x r e in
    omega (arith, a.rank, count_mono_lt (permitted (word_at t)) a.passes a.below)

-- of unranking: after the first p settings of the answer, for each p from 0 to n
pub unranked_left : (t s : List ℕ) (x r : ℕ) → unranking t r s ≡ value x → (p : ℕ) → p ≤ settings (word_at t)
    → let h = settings (word_at t) - p in (left : ℕ) × IsLeft (permitted (word_at t)) (settings (word_at t)) r h (x / 2 ^ h) left
unranked_left t s x r e p l =
    let w = word_at t in
    let h = settings w - p in
    (r - count_below (permitted w) (x / 2 ^ h * 2 ^ h), selected_left (permitted w) (settings w) r x (unranked_has t s x r e) h (omega arith))
