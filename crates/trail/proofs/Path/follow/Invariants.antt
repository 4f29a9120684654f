-- `trail::Path::follow` meets its contract. The loop's invariant: the way is followed on, and its node's setting is the next. Assumes nothing.
use Rattle.trail.specs.Inner.{FollowsOn}
use Rattle.trail.proofs.Path.follow.Given as goal

abbrev pub invariant-loop-way : goal.invariant-loop-way
invariant-loop-way l = FollowsOn l.table l.sheet l.r.0 l.initial.self.edges l.initial.self.ends l.initial.way.height l.initial.way l.self.edges l.self.ends l.way.height l.way

abbrev pub decreases-loop-way : goal.decreases-loop-way
decreases-loop-way l = l.way.height
