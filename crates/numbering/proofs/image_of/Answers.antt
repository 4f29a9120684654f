-- `numbering::image_of` meets its contract. Assumes nothing.
use Rattle.numbering.proofs.Keys.{image_is}
use Rattle.numbering.proofs.image_of.Goals as goal

pub returns : goal.returns
returns c = image_is _ _ _ _ _ c.node.ensures c.edge_to.ensures c.turned_by.ensures
