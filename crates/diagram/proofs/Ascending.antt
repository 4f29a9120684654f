-- Rule 5: the records of a reduced diagram ascend. Assumes nothing.
use Prim.Native.Nat.{ℕ, zero, suc, ◌≤◌, ◌<◌}
use mathlib.Core.Path.{◌≡◌}
use native.Mathlib.Nat.{le_refl}
use native.Mathlib.Omega.{arith}
use Rattle.diagram.specs.Format.{Words}
use Rattle.diagram.specs.Ordered.{Reduced}
use Rattle.words.proofs.Cases.{less, same, more, tri}

module _ (w : Words) (n N : ℕ) (D : Reduced w n N) where
  -- each is above all before it
  pub ascending : (j k : ℕ) → j < k → k < N → w (suc j) < w (suc k)
  ascending j zero l m = absurd (omega arith)
  ascending j (suc k) l m =
      let a = D.ascends k m in
      elim (tri j k) [ less q ↦ let b = ascending j k q (omega arith) in omega arith | same q ↦ rw q a | more q ↦ absurd (omega arith) ]

  -- ... so none is above a later one
  pub rising : (j k : ℕ) → j ≤ k → k < N → w (suc j) ≤ w (suc k)
  rising j k l m = elim (tri j k) [ less q ↦ omega (arith, ascending j k q m) | same q ↦ rw q (le_refl (w (suc k))) | more q ↦ absurd (omega arith) ]

  -- and equal records are one record
  pub record_inj : (j k : ℕ) → j < N → k < N → w (suc j) ≡ w (suc k) → j ≡ k
  record_inj j k l m e =
      elim (tri j k) [ less q ↦ omega (arith, ascending j k q m) | same q ↦ q | more q ↦ omega (arith, ascending k j q l) ]
