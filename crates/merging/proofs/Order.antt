-- The order of words by their fields. Assumes nothing.
use Prim.Native.Nat.{ℕ, ◌<◌}
use mathlib.Core.Path.{◌≡◌}
use native.Mathlib.Omega.{arith}
use Rattle.words.proofs.Cases.{less, same, more, tri}
use Rattle.diagram.specs.Format.{high_field, middle_field, low_field}
use Rattle.diagram.proofs.Fields.{word_fields}

-- words x and y become x' and y', whose fields keep their order
pub word_order : (x y x' y' : ℕ) → high_field x' ≡ high_field x → high_field y' ≡ high_field y
    → (middle_field x < middle_field y → middle_field x' < middle_field y') → (middle_field x ≡ middle_field y → middle_field x' ≡ middle_field y')
    → (low_field x < low_field y → low_field x' < low_field y') → x < y → x' < y'
unfolding middle_field low_field
word_order x y x' y' hx hy mlt meq llt l =
    let a = word_fields x in
    let b = word_fields y in
    let c = word_fields x' in
    let d = word_fields y' in
    elim (tri (high_field x) (high_field y)) [
      | less p ↦ omega arith
      | same p ↦ elim (tri (middle_field x) (middle_field y)) [
        | less q ↦ let r = mlt q in omega arith
        | same q ↦ let r = meq q in let s = llt (omega arith) in omega arith
        | more q ↦ absurd (omega arith)
      ]
      | more p ↦ absurd (omega arith)
    ]
