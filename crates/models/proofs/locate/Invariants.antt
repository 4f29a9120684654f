-- `models::locate` meets its contract. The loop's invariant: `left` is r less the counts of the first i models. Assumes nothing.
use Prim.Native.Nat.{◌+◌}
use mathlib.Core.Path.{◌≡◌}
use Rattle.models.specs.Pairs.{sum_counts}
use Rattle.models.specs.Inner.{models_of}
use Rattle.models.proofs.locate.Given as goal

abbrev pub invariant-loop-i : goal.invariant-loop-i
invariant-loop-i l = l.left + sum_counts l.n (models_of l.table l.roots) l.i ≡ l.r
