-- `loose::has_astray` meets its contract. Assumes nothing.
use mathlib.Core.Path.{sym, ◌∙◌}
use Rattle.loose.proofs.has_astray.Goals as goal

pub returns-then-is_astray : goal.returns-then-is_astray
returns-then-is_astray c = rw (sym c.is_astray.ensures ∙ c.if-is_astray.true) c.if-is_astray.true

pub returns-else-is_astray : goal.returns-else-is_astray
returns-else-is_astray c = rw (sym c.is_astray.ensures ∙ c.if-is_astray.false) c.is_astray-else-is_astray.ensures
