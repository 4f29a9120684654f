use Rattle.std.proofs.Common.{length, ◌-◌, ◌≤◌}
use Rattle.programs.proofs.read_full.Given as goal

abbrev pub invariant-loop-length : goal.invariant-loop-length
invariant-loop-length g l = l.length ≤ length l.memory

abbrev pub decreases-loop-length : goal.decreases-loop-length
decreases-loop-length g l = length l.initial.memory - l.length
