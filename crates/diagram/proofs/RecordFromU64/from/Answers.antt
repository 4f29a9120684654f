-- `From<u64>` of `diagram::Record` meets its contract. Assumes nothing.
use borrow.Author.Rules.{rules}
use Rattle.diagram.proofs.Fields.{fields_are}
use Rattle.diagram.proofs.RecordFromU64.from.Goals as goal

pub returns : goal.returns
returns c = fields_are _ (search rules)
