-- `naming::flag_of` meets its contract. Assumes nothing.
use borrow.Author.Rules.{rules}
use Rattle.naming.proofs.Readying.{flag_is}
use Rattle.naming.proofs.flag_of.Goals as goal

pub returns : goal.returns
returns c = flag_is _ _ _ _ c.names.ensures _ (search rules)
