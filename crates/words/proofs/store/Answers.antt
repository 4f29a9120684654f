-- `words::store` meets its contract: the bytes stored are the word's, in the opposite order. Assumes nothing.
use Rattle.words.proofs.Swaps.{swap_store}
use Rattle.words.proofs.store.Goals as goal

pub returns : goal.returns
returns c = swap_store _ _ _ _ c.write_little.ensures
