-- `brute::Sample::ranks_differ` is safe: neither count is above x. Assumes nothing.
use Rattle.std.proofs.Common.{◌≤◌}
use Rattle.brute.proofs.Sample.ranks_differ.Given as goal

abbrev pub invariant-loop-x : goal.invariant-loop-x
invariant-loop-x l = (l.differences ≤ l.x) × (l.before ≤ l.x)
