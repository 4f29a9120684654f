-- `gathering::node_at` meets its contract: zeros, or the record. Assumes nothing.
use native.Mathlib.Omega.{arith}
use Rattle.diagram.specs.Format.{high_field, middle_field, low_field}
use Rattle.gathering.proofs.node_at.Goals as goal
use Rattle.gathering.proofs.node_at.Goals.{then-v-eq0-via-then-v-eq0, then-v-eq0-via-else-v-eq0+then-sheet-p-eq0}

pub returns-then-v-eq0 : goal.returns-then-v-eq0
unfolding high_field middle_field low_field
returns-then-v-eq0 c =
    let f = c.from.ensures in
    record {
      none = λ _. (f.high_is, f.middle_is, f.low_is);
      some = λ p q. absurd (elim c.then-v-eq0.branch [
        | then-v-eq0-via-then-v-eq0 w ↦ omega (arith, w.if-v-eq0.true)
        | then-v-eq0-via-else-v-eq0+then-sheet-p-eq0 w ↦ omega (arith, w.if-sheet-p-eq0.true)
      ]);
    }
