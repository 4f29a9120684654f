-- `gathering::lay_all` meets its contract. The loop's invariant: the nodes below v are laid (`AllLaid`). Assumes nothing.
use Rattle.words.specs.Words.{word_at}
use Rattle.gathering.specs.Inner.{AllLaid}
use Rattle.gathering.proofs.lay_all.Given as goal

abbrev pub invariant-loop-v : goal.invariant-loop-v
invariant-loop-v l = AllLaid (word_at l.table) l.initial.sheet l.sheet l.p l.v
