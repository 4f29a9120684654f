-- `diagram_dot::draw` is safe and ends: an accepted table holds its diagram. Assumes nothing.
use Prim.Native.Nat.{ℕ, ◌+◌, ◌/◌, ◌<◌}
use mathlib.Core.Path.{◌≡◌, sym, ap, ◌∙◌}
use mathlib.Core.List.{List}
use native.Mathlib.Omega.{arith}
use lib.ListN.{length, get_or}
use Rattle.diagram.specs.Answer.{value}
use Rattle.diagram.specs.Ordered.{HasDiagram}
use Rattle.diagram.proofs.Accept.{check_accepted}
use Rattle.checking.specs.Answers.{checked_as}
use Rattle.checking.specs.Operations.{checking, checking_for}
use Rattle.checking.proofs.Bounds.{shape_fits}
use Rattle.diagram_dot.proofs.draw.Goals as goal

table_holds : (t s : List ℕ) (n N : ℕ) → ((i : ℕ) → get_or t i 0 < 256) → value (n, N) ≡ checking t s → HasDiagram t n N
unfolding checking_for
table_holds t s n N f e =
    let A = (check_accepted t (length s / 8) (λ N. N + 1) n N (sym e)).0 in
    record { long = omega (arith, A.long); few = A.few; few_settings = (shape_fits t s n N f e).0; ordered = A.proper.reduced.ordered }

pub invariant_of-drawing : goal.invariant_of-drawing
invariant_of-drawing g c =
    record { holds = table_holds _ _ _ _ (λ i. omega (arith, c.type_inv.table i)) (sym (ap checked_as c.in-Ok.is) ∙ c.check.ensures.0) }
