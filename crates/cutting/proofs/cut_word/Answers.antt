-- `cutting::cut_word` meets its contract. Assumes nothing.
use Rattle.cutting.proofs.cut_word.Goals.{then-on, else-on}
use Rattle.cutting.proofs.cut_word.Goals as goal

pub returns : goal.returns
returns c = elim c.if-on.branch [ then-on w ↦ rw w.if-on.true (rw w.t-9-is at c.word.ensures) | else-on w ↦ rw w.if-on.false (rw w.t-9-is at c.word.ensures) ]
