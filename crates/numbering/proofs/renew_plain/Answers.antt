-- `numbering::renew_plain` meets its contract. Assumes nothing.
use Rattle.numbering.proofs.Keys.{plain_fits, plain_is}
use Rattle.numbering.proofs.renew_plain.Goals as goal

pub word-requires : goal.word-requires
word-requires c =
    let p = c.requires in
    plain_fits _ _ _ _ _ _ _ _ p.0 p.1 c.from-height.ensures c.node.ensures c.edge_to.ensures c.image_of.ensures

pub returns : goal.returns
returns c =
    let p = c.requires in
    plain_is _ _ _ _ _ _ _ _ p.0 p.1 c.from-height.ensures c.node.ensures c.edge_to.ensures c.image_of.ensures _ c.word.ensures
