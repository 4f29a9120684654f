-- The answers of ranking and unranking fit the packed form: places up to 65,535, and values below 2 ^ 63, so no value can be taken for a refusal; and the sheet is handed back as asked. Assumes nothing.
use Prim.Native.Nat.{ℕ, ◌+◌, ◌^◌, ◌<◌}
use mathlib.Core.Path.{◌≡◌}
use mathlib.Core.Bool.{Bool, true, false, cond}
use mathlib.Core.List.{List}
use native.Mathlib.Omega.{arith}
use native.Mathlib.Nat.{lt_of_lt_of_le}
use lib.Pow.{pow_mono}
use Rattle.words.specs.Words.{Bytes, word_at}
use Rattle.diagram.specs.Format.{settings, nodes}
use Rattle.diagram.specs.Meaning.{permitted}
use Rattle.diagram.specs.Count.{count_below, select}
use Rattle.diagram.specs.Answer.{value, refusal}
use Rattle.diagram.proofs.CountLaws.{count_le}
use Rattle.diagram.proofs.Refusals.{Refuses, refuses, passes, or_refuses, then_refuses}
use Rattle.checking.specs.Operations.{checking, test_setup, blank}
use Rattle.checking.specs.Sheets.{HandedBack}
use Rattle.checking.proofs.Bounds.{Low, checking_place, test_refuses, settings_fit}
use Rattle.checking.proofs.Blank.{Late, hands_back}
use Rattle.ranking.specs.Operations.{rank_setup, ranking, unrank_setup, unranking}
use Rattle.ranking.proofs.Numbering.{HasRank, ranked_has, unranked_has}

-- ranking refuses by 12 and 13, unranking by 14
pub rank_refuses : (Q : ℕ → ℕ → Type 0) → Q 12 0 → Q 13 0 → (x n : ℕ) (P : ℕ → Bool) → Refuses Q (rank_setup x n P)
unfolding rank_setup
rank_refuses Q q q' x n P = then_refuses Q (test_setup x n P) _ (test_refuses Q q x n P) (λ b _. either b (count_below P x))
  where
    either : (b : Bool) (r : ℕ) → Refuses Q (cond b (value r) (refusal 13 0))
    either true r = passes Q r
    either false r = refuses Q 13 0 q'

pub unrank_refuses : (Q : ℕ → ℕ → Type 0) → Q 14 0 → (r n : ℕ) (P : ℕ → Bool) → Refuses Q (unrank_setup r n P)
unfolding unrank_setup
unrank_refuses Q q r n P = or_refuses Q 14 q (select P (2 ^ n) r)

pub ranking_place : (t : List ℕ) (x : ℕ) (s : List ℕ) → Refuses Low (ranking t x s)
unfolding ranking
ranking_place t x s = then_refuses Low (checking t s) _ (checking_place _ t s) (λ _ _. rank_refuses Low (omega arith) (omega arith) x (settings (word_at t)) (permitted (word_at t)))

pub unranking_place : (t : List ℕ) (r : ℕ) (s : List ℕ) → Refuses Low (unranking t r s)
unfolding unranking
unranking_place t r s = then_refuses Low (checking t s) _ (checking_place _ t s) (λ _ _. unrank_refuses Low (omega arith) r (settings (word_at t)) (permitted (word_at t)))

-- the sheet is handed back as asked
pub ranking_back : (t : List ℕ) (x : ℕ) (s : List ℕ) → HandedBack (nodes (word_at t) + 1) (ranking t x s) s (blank t s)
unfolding ranking
ranking_back t x s = hands_back (λ N. N + 1) t s _ (λ _. rank_refuses Late (omega arith) (omega arith) x (settings (word_at t)) (permitted (word_at t)))

pub unranking_back : (t : List ℕ) (r : ℕ) (s : List ℕ) → HandedBack (nodes (word_at t) + 1) (unranking t r s) s (blank t s)
unfolding unranking
unranking_back t r s = hands_back (λ N. N + 1) t s _ (λ _. unrank_refuses Late (omega arith) r (settings (word_at t)) (permitted (word_at t)))

-- a setup and its rank are below 2 ^ 63
has_rank_fits : (t : List ℕ) (x r : ℕ) → Bytes t → HasRank t x r → (x < 2 ^ 63) × (r < 2 ^ 63)
has_rank_fits t x r f h =
    let x_fits : x < 2 ^ 63 = lt_of_lt_of_le h.below (pow_mono (settings_fit t f)) in
    (x_fits, omega (arith, h.rank, count_le (permitted (word_at t)) x))

pub rank_fits : (t s : List ℕ) (x r : ℕ) → Bytes t → ranking t x s ≡ value r → r < 2 ^ 63
rank_fits t s x r f e = (has_rank_fits t x r f (ranked_has t s x r e)).1

pub setup_fits : (t s : List ℕ) (x r : ℕ) → Bytes t → unranking t r s ≡ value x → x < 2 ^ 63
setup_fits t s x r f e = (has_rank_fits t x r f (unranked_has t s x r e)).0
