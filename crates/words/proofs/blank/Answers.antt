-- `words::blank` meets its contract: words of 0 are bytes of 0. Assumes nothing.
use Rattle.words.proofs.Laws.{words_of_zeros}
use Rattle.words.proofs.blank.Goals as goal

pub returns : goal.returns
returns c = words_of_zeros _ _ _ c.requires (c.fill.ensures.after (λ y e. e))
