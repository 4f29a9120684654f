-- The answers of ranking and unranking, in the terms of the code. Assumes nothing.
use Prim.Native.Nat.{ℕ, ◌^◌, ◌≤◌}
use mathlib.Core.Path.{◌≡◌, ap}
use mathlib.Core.Bool.{Bool, true, false}
use mathlib.Core.Option.{some}
use Rattle.diagram.specs.Count.{count_below, select}
use Rattle.diagram.specs.Answer.{Answer, value, refusal, and_then, or_refuse}
use Rattle.diagram.proofs.Select.{select_none}
use Rattle.checking.specs.Operations.{test_setup}
use Rattle.ranking.specs.Operations.{rank_setup, unrank_setup}

-- a is the answer of the test
module _ (n x : ℕ) (P : ℕ → Bool) (a : Answer Bool) (a-is : a ≡ test_setup x n P) where
  pub test_refused : (number place : ℕ) → a ≡ refusal number place → refusal number place ≡ rank_setup x n P
  unfolding rank_setup and_then
  test_refused number place q = rw (← a-is, q)

  pub unpermitted : (b : Bool) → a ≡ value b → b ≡ false → refusal 13 0 ≡ rank_setup x n P
  unfolding rank_setup and_then
  unpermitted b q p = rw (← a-is, q, p)

  pub ranked_at : (b : Bool) → a ≡ value b → b ≡ true → (r : ℕ) → r ≡ count_below P x → value r ≡ rank_setup x n P
  unfolding rank_setup and_then
  ranked_at b q p r r-is = rw (← a-is, q, p) (ap value r-is)

module _ (n r : ℕ) (P : ℕ → Bool) where
  pub too_high : count_below P (2 ^ n) ≤ r → refusal 14 0 ≡ unrank_setup r n P
  unfolding unrank_setup or_refuse
  too_high l = rw (select_none P (2 ^ n) r l)

  pub unranked_to : (x : ℕ) → select P (2 ^ n) r ≡ some x → value x ≡ unrank_setup r n P
  unfolding unrank_setup or_refuse
  unranked_to x q = rw q
