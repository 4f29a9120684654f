-- `merging::number` meets its contract. The loop's invariant: the levels of the cuts below h are numbered. Assumes nothing.
use Prim.Native.Nat.{◌+◌, ◌≤◌}
use mathlib.Core.Path.{◌≡◌}
use Rattle.cutting.specs.Behind.{words_of}
use Rattle.merging.specs.Inner.{Reached}
use Rattle.merging.proofs.number.Given as goal

abbrev pub invariant-loop-h : goal.invariant-loop-h
invariant-loop-h l =
    (l.h ≤ l.cut.n + 1) × Reached (words_of l.cut) l.initial.map l.map l.cut.n l.cut.nodes 1 l.at.tally.count l.at.tally.last l.at.next l.at.first l.at.second × (l.at.first ≡ l.h) × (l.at.second ≡ l.h)
