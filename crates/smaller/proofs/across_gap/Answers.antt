-- `smaller::across_gap` meets its contract. Assumes nothing.
use borrow.Author.Rules.{rules}
use Rattle.diagram.proofs.Bits.{shl_pos}
use Rattle.smaller.proofs.Gap.{product_fits, inside_rest, flagged_fits, plain_fits, flagged_is, plain_is}
use Rattle.smaller.proofs.across_gap.Goals as goal

pub overflow_mul-before : goal.overflow_mul-before
overflow_mul-before c = let p = c.requires in record { fits = product_fits _ _ _ _ 0 p.0 p.1 p.2 (search rules) }

pub nonzero_rem-result : goal.nonzero_rem-result
nonzero_rem-result c = shl_pos _ c.requires.0

pub overflow_sub-result : goal.overflow_sub-result
overflow_sub-result c = inside_rest _ _ _ _ 0 c.requires.0 c.requires.1 c.requires.2 (search rules)

pub overflow_add-result : goal.overflow_add-result
overflow_add-result c = record { fits = flagged_fits _ _ _ _ 0 c.requires.0 c.requires.1 c.requires.2 (search rules) }

pub returns-then-flagged : goal.returns-then-flagged
returns-then-flagged c = flagged_is _ _ _ _ _ c.requires.0 c.requires.1 c.requires.2 (search rules) _ c.flagged.ensures c.if-flagged.true

pub overflow_add-result-else-flagged : goal.overflow_add-result-else-flagged
overflow_add-result-else-flagged c = record { fits = plain_fits _ _ _ _ 0 c.requires.0 c.requires.1 c.requires.2 (search rules) }

pub returns-else-flagged : goal.returns-else-flagged
returns-else-flagged c = plain_is _ _ _ _ _ c.requires.0 c.requires.1 c.requires.2 (search rules) _ c.flagged.ensures c.if-flagged.false
