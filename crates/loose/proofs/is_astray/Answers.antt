-- `loose::is_astray` meets its contract. Assumes nothing.
use native.Mathlib.Omega.{arith}
use borrow.Author.Tests.{lt-ltb, le-ltb}
use Rattle.loose.specs.Rules.{astray}
use Rattle.loose.proofs.is_astray.Goals as goal

pub returns-then-nodes-node : goal.returns-then-nodes-node
unfolding astray
returns-then-nodes-node c = rw (← c.node-node.ensures, lt-ltb _ _ c.if-nodes-node.true)

pub height_at-requires : goal.height_at-requires
height_at-requires c = omega (arith, c.if-nodes-node.false, c.requires)

pub returns-else-nodes-node : goal.returns-else-nodes-node
unfolding astray
returns-else-nodes-node c = rw (← c.node-node.ensures, le-ltb _ _ c.if-nodes-node.false, c.height_at.ensures.0)
