-- `descent::choose` meets its contract. Assumes nothing.
use mathlib.Core.Path.{refl, sym}
use borrow.Author.Tests.{le-leb, lt-leb}
use Rattle.descent.proofs.choose.Goals as goal

pub returns-then-left-off : goal.returns-then-left-off
returns-then-left-off c = record { on_is = sym (lt-leb _ _ c.if-left-off.true); left_is = refl; digits_is = refl }

pub returns : goal.returns
returns c = record { on_is = sym (le-leb _ _ c.if-left-off.false); left_is = refl; digits_is = refl }
