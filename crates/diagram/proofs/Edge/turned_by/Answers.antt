-- `diagram::Edge::turned_by` meets its contract. Assumes nothing.
use Rattle.diagram.proofs.Edges.{turned_set, turned_clear}
use Rattle.diagram.proofs.Edge.turned_by.Goals as goal

pub returns-then-flagged : goal.returns-then-flagged
returns-then-flagged c = turned_set _ _ c.flagged.ensures c.if-flagged.true _

pub returns : goal.returns
returns c = turned_clear _ _ c.flagged.ensures c.if-flagged.false _
