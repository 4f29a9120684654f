-- `checking::begin` meets its contract: N + 1 places, as the code has them. Assumes nothing.
use native.Mathlib.Omega.{arith}
use Rattle.checking.proofs.Lending.{begins_for}
use Rattle.checking.proofs.begin.Goals as goal

pub returns : goal.returns
returns c = begins_for _ (λ N. omega arith) c.begin_with.ensures
