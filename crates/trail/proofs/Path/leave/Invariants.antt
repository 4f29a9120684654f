-- `trail::Path::leave` meets its contract. The loop's invariant: the first h ends are not above r. Assumes nothing.
use Prim.Native.Nat.{ℕ, ◌-◌, ◌≤◌, ◌<◌}
use lib.ListN.{get_or}
use Rattle.trail.proofs.Path.leave.Given as goal

abbrev pub invariant-loop-h : goal.invariant-loop-h
invariant-loop-h l = (k : ℕ) → k < l.h → get_or l.self.ends k 0 ≤ l.r.0

abbrev pub decreases-loop-h : goal.decreases-loop-h
decreases-loop-h l = 64 - l.h
