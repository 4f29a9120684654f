-- Request 11, as theorems about the operation beside the check and the count. Assumes nothing.
use Prim.Native.Nat.{ℕ, zero, suc, ◌≤◌, ◌<◌}
use mathlib.Core.Path.{◌≡◌, refl, sym, ◌∙◌}
use mathlib.Core.Logic.{◌↔◌}
use mathlib.Core.List.{List}
use native.Mathlib.Omega.{arith}
use Rattle.words.specs.Words.{word_at}
use Rattle.diagram.specs.Format.{Words, settings, nodes}
use Rattle.diagram.specs.Meaning.{permitted}
use Rattle.diagram.specs.Count.{total}
use Rattle.diagram.specs.Answer.{value, refusal}
use Rattle.diagram.proofs.AnswerLaws.{value_inj, then_some, then_refused}
use Rattle.diagram.proofs.Refusals.{passes}
use Rattle.checking.specs.Operations.{checking, checking_for, counting, blank_for}
use Rattle.checking.specs.Sheets.{HandedBack}
use Rattle.checking.proofs.Blank.{Late, hands_back}
use Rattle.pascal.specs.Ones.{sum}
use Rattle.pascal.proofs.Weights.{on_past, on_sum}
use Rattle.weighing.specs.Operations.{needed, total_on, counting_on}
use Rattle.weighing.specs.AddUp.{AddUp}

-- the counts over all m from 0 to n add up to C
pub add_up : AddUp
unfolding total_on total
add_up w = on_sum (permitted w) (settings w)

-- an m above n gives 0
pub none_above : (w : Words) (m : ℕ) → settings w < m → total_on w m ≡ 0
unfolding total_on
none_above w m l = on_past (permitted w) (settings w) m l

-- equal numbers have equal sums
sum_cong : (f g : ℕ → ℕ) (m : ℕ) → ((i : ℕ) → i < m → f i ≡ g i) → sum f m ≡ sum g m
unfolding sum
sum_cong f g zero e = refl
sum_cong f g (suc m) e = omega (arith, sum_cong f g m (λ i l. e i (omega arith)), e m (omega arith))

module _ (t s : List ℕ) where
  abbrev w : Words
  w = word_at t

  -- what is answered, if anything is, is that count
  pub answers : (m c : ℕ) → counting_on t m s ≡ value c → c ≡ total_on w m
  unfolding counting_on
  answers m c e = sym (value_inj (then_some (checking_for needed t s) _ e).2)

  -- ... so the answers to all m from 0 to n add up to the answer of counting, whatever sheets are lent
  pub answers_add_up : (f : ℕ → ℕ) → ((m : ℕ) → m ≤ settings w → counting_on t m s ≡ value (f m)) → (s' : List ℕ) (c : ℕ) → counting t s' ≡ value c → sum f (suc (settings w)) ≡ c
  unfolding counting
  answers_add_up f e s' c q =
      sum_cong f (total_on w) (suc (settings w)) (λ m l. answers m (f m) (e m (omega arith))) ∙ add_up w ∙ value_inj (then_some (checking t s') _ q).2

  -- ... and the answer to an m above n is 0
  pub above_answered : (m c : ℕ) → settings w < m → counting_on t m s ≡ value c → c ≡ 0
  above_answered m c l e = answers m c e ∙ none_above w m l

  -- it refuses what the check refuses, by 64 × (N + 1) places, and nothing else, whatever m is
  pub refused_alike : (m number place : ℕ) → (counting_on t m s ≡ refusal number place) ↔ (checking_for needed t s ≡ refusal number place)
  unfolding counting_on
  refused_alike m number place = then_refused (checking_for needed t s) (λ _. total_on w m) number place

  -- the sheet is handed back as asked
  pub counting_on_back : (m : ℕ) → HandedBack (needed (nodes w)) (counting_on t m s) s (blank_for needed t s)
  unfolding counting_on
  counting_on_back m = hands_back needed t s _ (λ _. passes Late (total_on w m))
