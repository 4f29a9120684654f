-- `walking::permitted_plain` and `walking::permitted_flagged` meet their contracts. Each one's measure is the height of its node. Assumes nothing.
use Rattle.words.specs.Words.{word_at}
use Rattle.diagram.specs.Format.{height}
use Rattle.walking.proofs.+permitted_flagged_permitted_plain.Given as goal

abbrev pub decreases-permitted_flagged : goal.decreases-permitted_flagged
decreases-permitted_flagged l = height (word_at l.table.now) l.k.0

abbrev pub decreases-permitted_plain : goal.decreases-permitted_plain
decreases-permitted_plain l = height (word_at l.table.now) l.k.0
