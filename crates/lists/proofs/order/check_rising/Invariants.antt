-- `lists::order::check_rising` meets its contract. The loop's invariant: the first i ranks do not fall. Assumes nothing.
use Prim.Native.Nat.{◌-◌, ◌≤◌, ◌<◌}
use mathlib.Core.Path.{◌≡◌}
use Rattle.words.specs.Words.{word_at}
use Rattle.diagram.specs.Answer.{pass}
use Rattle.lists.specs.Operations.{check_rising}
use Rattle.lists.proofs.order.check_rising.Given as goal

abbrev pub invariant-loop-i : goal.invariant-loop-i
invariant-loop-i l = (0 < l.i) × (l.i - 1 ≤ l.m - 1) × (check_rising (word_at l.ranks) l.i ≡ pass)
