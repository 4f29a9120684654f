-- `words::put_word` meets its contract: bytes turned over twice are as they were. Assumes nothing.
use borrow.Author.Rules.{rules}
use Rattle.words.specs.Swap.{swap}
use Rattle.words.proofs.Swaps.{swap_swap}
use Rattle.words.proofs.put_word.Goals as goal

pub returns : goal.returns
returns c = unfold swap in search (rules, swap_swap)
