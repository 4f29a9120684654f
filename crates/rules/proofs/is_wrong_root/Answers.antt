-- `rules::is_wrong_root` meets its contract. Assumes nothing.
use Rattle.diagram.specs.Rules.{wrong_root}
use Rattle.rules.proofs.is_wrong_root.Goals as goal

pub returns-then-loose : goal.returns-then-loose
unfolding wrong_root
returns-then-loose c = rw c.if-loose.true

pub returns-else-loose : goal.returns-else-loose
unfolding wrong_root
returns-else-loose c = rw c.if-loose.false
