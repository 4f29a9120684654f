-- `words::word_at` meets its contract: the loaded bytes in the opposite order. Assumes nothing.
use borrow.Author.Rules.{rules}
use Rattle.words.specs.Swap.{swap}
use Rattle.words.proofs.word_at.Goals as goal

pub returns : goal.returns
returns c = unfold swap in search rules
