-- `emitting::write_record` meets its contract. Assumes nothing.
use native.Mathlib.Omega.{arith}
use Rattle.emitting.proofs.Emits.{number_is}
use Rattle.emitting.proofs.write_record.Goals as goal

pub put_word-requires : goal.put_word-requires
put_word-requires c =
    omega (arith, c.requires.2, number_is _ _ _ _ c.edge_to.ensures c.node-number.ensures)

pub returns : goal.returns
returns c =
    rw (← (number_is _ _ _ _ c.edge_to.ensures c.node-number.ensures)) c.put_word.ensures
