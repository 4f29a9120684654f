-- `smaller::rank_at` meets its contract. Its measure is the height of its node. Assumes nothing.
use Rattle.words.specs.Words.{word_at}
use Rattle.diagram.specs.Format.{height}
use Rattle.smaller.proofs.+rank_at.Given as goal

abbrev pub decreases-rank_at : goal.decreases-rank_at
decreases-rank_at l = height (word_at l.table.now) l.k.0
