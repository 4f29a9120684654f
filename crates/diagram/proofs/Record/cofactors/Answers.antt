-- `diagram::Record::cofactors` meets its contract. Assumes nothing.
use Rattle.diagram.proofs.Record.cofactors.Goals as goal

pub returns : goal.returns
returns c = (c.turned_by.ensures, c.turned_by-2.ensures)
