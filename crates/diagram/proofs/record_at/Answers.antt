-- `diagram::record_at` meets its contract. Assumes nothing.
use Rattle.diagram.proofs.Fields.{fields_record}
use Rattle.diagram.proofs.record_at.Goals as goal

pub returns : goal.returns
returns c = fields_record _ _ _ _ _ _ c.requires.0 c.word_at.ensures c.from.ensures
