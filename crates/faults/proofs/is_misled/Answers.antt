-- `faults::is_misled` meets its contract. Assumes nothing.
use Prim.Native.Nat.{◌<◌}
use mathlib.Core.Path.{sym, subst, ◌∙◌}
use borrow.Author.Tests.{eq-eqb, le-leb, lt-leb}
use Rattle.diagram.specs.Rules.{misled}
use Rattle.faults.proofs.RecordRules.{sink_below}
use Rattle.faults.proofs.is_misled.Goals as goal

pub returns-else-node-ne0 : goal.returns-else-node-ne0
returns-else-node-ne0 c tall = rw (eq-eqb _ 0 c.if-node-ne0.false) (sym (sink_below _ _ _ (subst (λ h. 0 < h) c.requires.0 tall) (sym c.node-node.ensures ∙ c.if-node-ne0.false)))

pub returns-then-k-node : goal.returns-then-k-node
unfolding misled
returns-then-k-node c tall = rw (← c.node-node.ensures, le-leb _ _ c.if-k-node.true)

pub returns-else-k-node : goal.returns-else-k-node
unfolding misled
returns-else-k-node c tall =
    rw (← c.node-node.ensures, lt-leb _ _ c.if-k-node.false, c.height_at.ensures.0, c.requires.0)
