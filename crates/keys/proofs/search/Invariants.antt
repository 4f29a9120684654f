-- `keys::search` meets its contract. The loop's invariant: the first d slots of the search are taken by other keys. Assumes nothing.
use Rattle.words.specs.Words.{word_at}
use Rattle.keys.proofs.Searching.{Probe}
use Rattle.keys.proofs.search.Given as goal

abbrev pub invariant-loop-d : goal.invariant-loop-d
invariant-loop-d l = Probe (word_at l.sheet) l.p l.key l.d l.slot
