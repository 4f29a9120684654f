-- `nearing::fill` meets its contract. The loop's invariant: the distances under the edges to nodes 0 to k are entered. Assumes nothing.
use mathlib.Core.Path.{◌≡◌}
use lib.ListN.{length}
use Rattle.nearing.specs.Inner.{Filled}
use Rattle.nearing.proofs.fill.Given as goal

abbrev pub invariant-loop-k : goal.invariant-loop-k
invariant-loop-k l = Filled l.table l.sheet l.x.0 l.k × (length l.sheet ≡ length l.initial.sheet)
