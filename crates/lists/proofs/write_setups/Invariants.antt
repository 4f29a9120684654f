-- `lists::write_setups` meets its contract. The loop's invariant: the first i setups are written, and the way to the last of them is kept. Assumes nothing.
use Prim.Native.Nat.{ℕ}
use Rattle.trail.specs.Inner.{Trail}
use Rattle.lists.proofs.Serving.{Serves}
use Rattle.lists.proofs.write_setups.Given as goal

abbrev pub invariant-loop-i : goal.invariant-loop-i
invariant-loop-i l =
    (root : ℕ) → Trail l.table l.sheet l.n root 0 l.initial.path.edges l.initial.path.ends 0 l.initial.path.last.0 → Serves l.table l.sheet l.ranks l.n root l.m l.initial.setups l.i l.setups l.path.edges l.path.ends l.path.last.0
