use mathlib.Core.Path.{sym, ap, ◌∙◌}
use mathlib.Core.Bool.{not}
use Rattle.walking.proofs.Walking.{plain_sink, calls, plain_flagged, plain_plain, flagged_flagged, flagged_plain}
use Rattle.walking.proofs.+permitted_flagged_permitted_plain.Goals as goal

pub permitted_flagged-returns-then-k-eq0 : goal.permitted_flagged-returns-then-k-eq0
permitted_flagged-returns-then-k-eq0 t c = sym (ap not (plain_sink _ _ _ c.if-k-eq0.true))

pub permitted_flagged-permitted_plain-requires : goal.permitted_flagged-permitted_plain-requires
permitted_flagged-permitted_plain-requires t c = calls _ _ _ _ _ c.requires c.if-k-eq0.false c.branch_of-e.ensures c.node.ensures _ c.decreases

pub permitted_flagged-permitted_flagged-requires : goal.permitted_flagged-permitted_flagged-requires
permitted_flagged-permitted_flagged-requires t c = calls _ _ _ _ _ c.requires c.if-k-eq0.false c.branch_of-e.ensures c.node-else-flagged.ensures _ c.decreases

pub permitted_flagged-returns-then-flagged : goal.permitted_flagged-returns-then-flagged
permitted_flagged-returns-then-flagged t c =
    c.permitted_plain.ensures ∙ sym (flagged_flagged _ _ _ _ _ c.requires c.if-k-eq0.false c.branch_of-e.ensures c.node.ensures _ c.flagged.ensures c.if-flagged.true)

pub permitted_flagged-returns-else-flagged : goal.permitted_flagged-returns-else-flagged
permitted_flagged-returns-else-flagged t c =
    c.permitted_flagged.ensures ∙ sym (flagged_plain _ _ _ _ _ c.requires c.if-k-eq0.false c.branch_of-e.ensures c.node-else-flagged.ensures _ c.flagged.ensures c.if-flagged.false)

pub permitted_plain-returns-then-k-eq0 : goal.permitted_plain-returns-then-k-eq0
permitted_plain-returns-then-k-eq0 t c = sym (plain_sink _ _ _ c.if-k-eq0.true)

pub permitted_plain-permitted_flagged-requires : goal.permitted_plain-permitted_flagged-requires
permitted_plain-permitted_flagged-requires t c = calls _ _ _ _ _ c.requires c.if-k-eq0.false c.branch_of-e.ensures c.node.ensures _ c.decreases

pub permitted_plain-permitted_plain-requires : goal.permitted_plain-permitted_plain-requires
permitted_plain-permitted_plain-requires t c = calls _ _ _ _ _ c.requires c.if-k-eq0.false c.branch_of-e.ensures c.node-else-flagged.ensures _ c.decreases

pub permitted_plain-returns-then-flagged : goal.permitted_plain-returns-then-flagged
permitted_plain-returns-then-flagged t c =
    c.permitted_flagged.ensures ∙ sym (plain_flagged _ _ _ _ _ c.requires c.if-k-eq0.false c.branch_of-e.ensures c.node.ensures _ c.flagged.ensures c.if-flagged.true)

pub permitted_plain-returns-else-flagged : goal.permitted_plain-returns-else-flagged
permitted_plain-returns-else-flagged t c =
    c.permitted_plain.ensures ∙ sym (plain_plain _ _ _ _ _ c.requires c.if-k-eq0.false c.branch_of-e.ensures c.node-else-flagged.ensures _ c.flagged.ensures c.if-flagged.false)
