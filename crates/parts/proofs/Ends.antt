-- A part by its first and its last setup. Assumes nothing.
use Prim.Native.Nat.{ℕ, ◌+◌, ◌-◌, ◌^◌, ◌≤◌}
use mathlib.Core.Path.{◌≡◌, sym}
use mathlib.Core.Bool.{Bool, false}
use mathlib.Core.List.{List}
use mathlib.Core.Option.{some}
use native.Mathlib.Omega.{arith}
use native.Mathlib.Nat.{le_trans}
use lib.Pow.{pow_mono}
use Rattle.diagram.specs.Answer.{Answer}
use Rattle.diagram.specs.Count.{count_below, select}
use Rattle.diagram.proofs.CountLaws.{count_le}
use Rattle.diagram.proofs.Select.{select_some}
use Rattle.division.specs.Span.{within}
use Rattle.division.proofs.Within.{within_none, within_bounds}
use Rattle.tables.specs.Inner.{Writes}
use Rattle.tables.proofs.Writes.{writes_same}
use Rattle.writing.specs.Inner.{between}

-- z setups of n settings that P permits, from rank b on
module _ (n : ℕ) (P : ℕ → Bool) (b z : ℕ) where
  -- ranks fit 64 bits
  pub extent_fits : n ≤ 63 → b + z ≤ count_below P (2 ^ n) → b + z ≤ 9223372036854775808
  extent_fits few l = le_trans l (le_trans (count_le P (2 ^ n)) (pow_mono few))

  module _ {out out' : List ℕ} {answer : Answer ℕ} where
    -- none of them: nothing is written
    pub none_written : z ≡ 0 → Writes n (λ _. false) out answer out' → Writes n (within P b z) out answer out'
    none_written e w = writes_same n (λ _. false) (within P b z) (λ x l. sym (within_none P b z e x)) w

    -- or those from the first to the last
    pub some_written : (lo hi : ℕ) → (z ≡ 0 → ⊥) → select P (2 ^ n) b ≡ some lo → select P (2 ^ n) (b + (z - 1)) ≡ some hi
        → Writes n (between P lo hi) out answer out' → Writes n (within P b z) out answer out'
    unfolding between
    some_written lo hi e p q w =
        let i : b + (z - 1) ≡ b + z - 1 = omega arith in
        writes_same n (between P lo hi) (within P b z) (λ x l. sym (within_bounds P b z (2 ^ n) lo hi (select_some P (2 ^ n) b lo p) (select_some P (2 ^ n) (b + z - 1) hi (rw i at q)) (omega arith) x)) w
