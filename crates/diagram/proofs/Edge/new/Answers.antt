-- `diagram::Edge::new` meets its contract. Assumes nothing.
use native.Mathlib.Omega.{arith}
use Rattle.diagram.specs.Count.{indicator}
use Rattle.diagram.proofs.Edge.new.Goals as goal

pub returns-then-flagged : goal.returns-then-flagged
unfolding indicator
returns-then-flagged c = simp c.if-flagged.true (omega arith)

pub returns : goal.returns
unfolding indicator
returns c = simp c.if-flagged.false (omega arith)
