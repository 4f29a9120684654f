-- What a record names that passes. Assumes nothing.
use Prim.Native.Nat.{ℕ, ◌+◌, ◌/◌, ◌≤◌}
use mathlib.Core.Path.{◌≡◌}
use native.Mathlib.Omega.{arith}
use native.Mathlib.Numerals.{add-one}
use Rattle.diagram.specs.Format.{Words}
use Rattle.diagram.specs.Answer.{pass}
use Rattle.diagram.specs.Rules.{check_records}
use Rattle.diagram.specs.Reading.{HasFields}
use Rattle.diagram.proofs.Accept.{records_reduced}
use Rattle.diagram.proofs.Fields.{fields_record}

-- the nodes that a record names lie below it if it passes
pub names_lower : (w : Words) (n k word h a b : ℕ) → check_records w n (k + 1) ≡ pass → word ≡ w (k + 1) → HasFields word h a b → (a / 2 ≤ k) × (b / 2 ≤ k)
names_lower w n k word h a b e word_is F =
    let D = (records_reduced w n (k + 1) e).ordered in
    let r = fields_record w (k + 1) word h a b (omega arith) word_is F in
    (rw (r.then_is, add-one) (D.then_node k (omega arith)), rw (r.else_is, add-one) (D.else_node k (omega arith)))
