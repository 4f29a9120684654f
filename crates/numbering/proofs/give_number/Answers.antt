-- `numbering::give_number` meets its contract. Assumes nothing.
use Rattle.numbering.proofs.Keys.{flag_low, gave_number}
use Rattle.numbering.proofs.give_number.Goals as goal

pub returns : goal.returns
returns c =
    let p = c.requires in
    gave_number _ _ _ _ _ _ _ _ _ p.2 p.3 (flag_low _) p.1 c.after-on.ensures (rw (← c.from.ensures) c.put_word.ensures)
