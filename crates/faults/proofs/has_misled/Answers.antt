-- `faults::has_misled` meets its contract. Assumes nothing.
use mathlib.Core.Path.{sym, ◌∙◌}
use Rattle.faults.proofs.has_misled.Goals as goal

pub returns-then-is_misled : goal.returns-then-is_misled
returns-then-is_misled c tall = rw (sym (c.is_misled.ensures tall) ∙ c.if-is_misled.true) c.if-is_misled.true

pub returns-else-is_misled : goal.returns-else-is_misled
returns-else-is_misled c tall = rw (sym (c.is_misled.ensures tall) ∙ c.if-is_misled.false) (c.is_misled-else-is_misled.ensures tall)
