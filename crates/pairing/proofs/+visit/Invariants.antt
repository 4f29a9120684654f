-- `pairing::visit`, which calls itself, meets its contract. The measure is the height of the pair. Assumes nothing.
use Rattle.words.specs.Words.{word_at}
use Rattle.pairing.specs.Pairs.{pair_height}
use Rattle.pairing.proofs.+visit.Given as goal

abbrev pub decreases-visit : goal.decreases-visit
decreases-visit l = pair_height (word_at l.table1.now) (word_at l.table2.now) l.pair
