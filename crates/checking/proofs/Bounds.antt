-- What the operations answer fits the packed form: places up to 65,535, n up to 63 and N up to 65,535. Assumes nothing.
use Prim.Native.Nat.{ℕ, ◌+◌, ◌/◌, ◌^◌, ◌≤◌}
use mathlib.Core.Path.{◌≡◌, sym}
use mathlib.Core.Bool.{Bool}
use mathlib.Core.List.{List}
use native.Mathlib.Omega.{arith}
use lib.Dec.{leb}
use lib.ListN.{length}
use Rattle.words.specs.Words.{Bytes, word_at}
use Rattle.words.proofs.Laws.{word_fits}
use Rattle.diagram.specs.Format.{settings, high_field}
use Rattle.diagram.specs.Meaning.{permitted}
use Rattle.diagram.specs.Count.{total}
use Rattle.diagram.specs.Answer.{value}
use Rattle.diagram.proofs.Accept.{check_accepted}
use Rattle.diagram.proofs.Refusals.{Refuses, passes, unless, then_refuses, check_refuses}
use Rattle.checking.specs.Operations.{checking, checking_for, counting, test_setup, testing}

abbrev pub Low : ℕ → ℕ → Type 0
Low number place = place ≤ 65535

pub checking_place : (need : ℕ → ℕ) (t s : List ℕ) → Refuses Low (checking_for need t s)
unfolding checking_for
checking_place need t s r p e = (check_refuses t (length s / 8) need r p e).0

pub counting_place : (t s : List ℕ) → Refuses Low (counting t s)
unfolding counting
counting_place t s = then_refuses Low (checking t s) _ (checking_place _ t s) (λ _ _. passes Low (total (word_at t)))

-- the test refuses by 12 only
pub test_refuses : (Q : ℕ → ℕ → Type 0) → Q 12 0 → (x n : ℕ) (P : ℕ → Bool) → Refuses Q (test_setup x n P)
unfolding test_setup
test_refuses Q q x n P = unless Q (leb (2 ^ n) x) 12 0 q (passes Q (P x))

pub testing_place : (t : List ℕ) (x : ℕ) (s : List ℕ) → Refuses Low (testing t x s)
unfolding testing
testing_place t x s = then_refuses Low (checking t s) _ (checking_place _ t s) (λ _ _. test_refuses Low (omega arith) x (settings (word_at t)) (permitted (word_at t)))

-- a header's first field has six bits
pub settings_fit : (t : List ℕ) → Bytes t → settings (word_at t) ≤ 63
unfolding settings high_field
settings_fit t f = omega (arith, word_fits t 0 f)

pub shape_fits : (t s : List ℕ) (n N : ℕ) → Bytes t → value (n, N) ≡ checking t s → (n ≤ 63) × (N ≤ 65535)
unfolding checking_for
shape_fits t s n N f e =
    let A = (check_accepted t (length s / 8) (λ N. N + 1) n N (sym e)).0 in
    (omega (arith, A.has_settings, settings_fit t f), A.few)
