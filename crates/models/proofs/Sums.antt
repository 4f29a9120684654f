-- The laws of sums. Assumes nothing.
use Prim.Native.Nat.{ℕ, zero, suc, ◌*◌, ◌≤◌, ◌<◌}
use mathlib.Core.Path.{◌≡◌}
use native.Mathlib.Omega.{arith}
use Rattle.words.proofs.Cases.{less, same, more, tri}
use Rattle.pascal.specs.Ones.{sum}

-- sums grow
pub sum_mono : (f : ℕ → ℕ) (a b : ℕ) → a ≤ b → sum f a ≤ sum f b
unfolding sum
sum_mono f a zero l = let e : a ≡ 0 = omega arith in rw e (omega arith)
sum_mono f a (suc b) l = elim (tri a (suc b)) [ less i ↦ omega (arith, sum_mono f a b (omega arith)) | same i ↦ rw i (omega arith) | more i ↦ absurd (omega arith) ]

-- numbers that are at most c
pub sum_le : (f : ℕ → ℕ) (c m : ℕ) → ((i : ℕ) → i < m → f i ≤ c) → sum f m ≤ m * c
unfolding sum
sum_le f c zero h = omega arith
sum_le f c (suc m) h = omega (arith, sum_le f c m (λ i l. h i (omega arith)), h m (omega arith))
