-- `marking::mark_two` meets its contract. Assumes nothing.
use Rattle.marking.proofs.Spreading.{spread}
use Rattle.marking.proofs.mark_two.Goals as goal

pub returns : goal.returns
returns c =
    let p = c.requires in
    spread _ _ _ _ _ p.0 p.1 c.put_word.ensures c.put_word-2.ensures
