-- `checking::test_setup` meets its contract. Assumes nothing.
use Rattle.checking.proofs.Answering.{too_large, tested}
use Rattle.checking.proofs.test_setup.Goals as goal

pub returns-then-n-x : goal.returns-then-n-x
returns-then-n-x c = too_large _ _ _ c.requires.1 c.if-n-x.true

pub returns : goal.returns
returns c = tested _ _ _ c.requires.1 c.if-n-x.false _ c.permitted_under.ensures
