-- `models::add_up` meets its contract. The loop's invariant: `sum` has the counts of the first i models, each of a word. Assumes nothing.
use Prim.Native.Nat.{◌*◌, ◌^◌, ◌≤◌}
use Rattle.models.specs.Inner.{AddsUp}
use Rattle.models.proofs.add_up.Given as goal

abbrev pub invariant-loop-i : goal.invariant-loop-i
invariant-loop-i l = AddsUp l.sheet l.roots l.n l.i l.sum × (l.sum ≤ l.i * 2 ^ 64)
