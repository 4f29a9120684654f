-- `descent::descend` meets its contract. The loop's invariant: a way that stands, and the settings chosen so far. Assumes nothing.
use Rattle.words.specs.Words.{word_at}
use Rattle.descent.specs.Inner.{ChosenBy, Stands}
use Rattle.descent.proofs.descend.Given as goal

abbrev pub invariant-loop-h : goal.invariant-loop-h
invariant-loop-h l = Stands l.table l.sheet l.h l.way × ChosenBy (word_at l.table) l.n l.initial.way.edge.value l.initial.way.left l.h l.way
