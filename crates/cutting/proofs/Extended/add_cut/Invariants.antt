-- `cutting::Extended::add_cut` meets its contract. The loop's invariant: the cut's nodes above height h are there (`Cutting`). Assumes nothing.
use Prim.Native.Nat.{◌+◌}
use Rattle.cutting.specs.Behind.{words_of, SameTable}
use Rattle.cutting.proofs.Cutting.{Cutting}
use Rattle.cutting.proofs.Extended.add_cut.Given as goal

abbrev pub invariant-loop-h : goal.invariant-loop-h
invariant-loop-h l =
    let d = l.initial.self in
    SameTable d l.self × Cutting (words_of d) d.n (d.nodes + l.skip) l.bound.0 l.root.value l.lower l.h l.e.value (words_of l.self)
