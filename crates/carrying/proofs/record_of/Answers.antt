-- `carrying::record_of` meets its contract. Assumes nothing.
use borrow.Author.Rules.{rules}
use Rattle.carrying.specs.Words.{keyed}
use Rattle.carrying.proofs.record_of.Goals as goal

pub returns : goal.returns
unfolding keyed
returns c = search rules
