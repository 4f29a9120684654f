-- `walking::permitted_under` meets its contract: the flag of the edge is taken off first. Assumes nothing.
use mathlib.Core.Path.{sym, subst, ◌∙◌}
use Rattle.diagram.specs.Reading.{Within}
use Rattle.diagram.proofs.Edges.{under_flagged, under_plain}
use Rattle.walking.proofs.permitted_under.Goals as goal

pub permitted_flagged-requires : goal.permitted_flagged-requires
permitted_flagged-requires c = subst (Within _) (sym c.node.ensures) c.requires

pub permitted_plain-requires : goal.permitted_plain-requires
permitted_plain-requires c = subst (Within _) (sym c.node-else-flagged.ensures) c.requires

pub returns-then-flagged : goal.returns-then-flagged
returns-then-flagged c = c.permitted_flagged.ensures ∙ under_flagged _ _ c.flagged.ensures _ _ _ c.node.ensures c.if-flagged.true

pub returns-else-flagged : goal.returns-else-flagged
returns-else-flagged c = c.permitted_plain.ensures ∙ under_plain _ _ c.flagged.ensures _ _ _ c.node-else-flagged.ensures c.if-flagged.false
