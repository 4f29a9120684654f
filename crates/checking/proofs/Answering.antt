-- Rule 12 and the answer of the test, in the terms of the code. Assumes nothing.
use Prim.Native.Nat.{ℕ, ◌*◌, ◌%◌, ◌^◌, ◌≤◌, ◌<◌}
use mathlib.Core.Path.{◌≡◌}
use mathlib.Core.Bool.{Bool}
use lib.Dec.{leb}
use borrow.Author.Tests.{le-leb, lt-leb, leb-false}
use Rattle.words.proofs.Cases.{passed}
use Rattle.diagram.specs.Answer.{value, refusal}
use Rattle.diagram.proofs.AnswerLaws.{refused_not, value_inj}
use Rattle.diagram.proofs.Bits.{one_shl}
use Rattle.checking.specs.Operations.{test_setup}

module _ (n x : ℕ) (P : ℕ → Bool) (few : n ≤ 63) where
  pub too_large : 1 * 2 ^ n % 18446744073709551616 ≤ x → refusal 12 0 ≡ test_setup x n P
  unfolding test_setup
  too_large l = rw (le-leb (2 ^ n) x (rw (one_shl n few) at l))

  pub in_range : x < 1 * 2 ^ n % 18446744073709551616 → x < 2 ^ n
  in_range l = rw (one_shl n few) at l

  pub tested : x < 1 * 2 ^ n % 18446744073709551616 → (b : Bool) → b ≡ P x → value b ≡ test_setup x n P
  unfolding test_setup
  tested l b q = rw (lt-leb (2 ^ n) x (in_range l), q)

-- what the test answers is that
pub test_is : (n x : ℕ) (P : ℕ → Bool) (b : Bool) → test_setup x n P ≡ value b → (x < 2 ^ n) × (P x ≡ b)
unfolding test_setup
test_is n x P b e = let q = passed (leb (2 ^ n) x) refused_not e in (leb-false (2 ^ n) x q.0, value_inj q.1)
