-- `numbering::Tally::after` meets its contract. Assumes nothing.
use mathlib.Core.Path.{refl, sym}
use Rattle.numbering.specs.Renewal.{same_record, new_record}
use Rattle.numbering.proofs.Tally.after.Goals as goal

pub returns-then-word-self : goal.returns-then-word-self
returns-then-word-self c = same_record c.if-word-self.true refl (sym c.if-word-self.true)

pub returns-else-word-self : goal.returns-else-word-self
returns-else-word-self c = new_record c.if-word-self.false refl refl
