-- `trail::Path::cross` meets its contract. The loop's invariant: the way is followed on. Assumes nothing.
use Prim.Native.Nat.{◌≤◌}
use Rattle.trail.specs.Inner.{FollowsOn}
use Rattle.trail.proofs.Path.cross.Given as goal

abbrev pub invariant-loop-way : goal.invariant-loop-way
invariant-loop-way l = FollowsOn l.table l.sheet l.r.0 l.initial.self.edges l.initial.self.ends l.from l.initial.way l.self.edges l.self.ends l.h l.way × (l.h ≤ l.from)

abbrev pub decreases-loop-way : goal.decreases-loop-way
decreases-loop-way l = l.h
