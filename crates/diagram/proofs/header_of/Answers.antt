-- `diagram::header_of` meets its contract. Assumes nothing.
use Rattle.diagram.proofs.Fields.{fields_header}
use Rattle.diagram.proofs.header_of.Goals as goal

pub returns : goal.returns
returns c = fields_header _ _ _ _ _ c.word_at.ensures c.from-fields.ensures
