-- `descent::branch` meets its contract. Assumes nothing.
use mathlib.Core.Path.{refl}
use native.Mathlib.Nat.{le_refl}
use Rattle.descent.proofs.Ways.{node_there, low_opens, high_room, off_fits, goes_high, goes_low}
use Rattle.descent.proofs.branch.Goals as goal

pub record_at-requires : goal.record_at-requires
record_at-requires c = let p = c.requires in node_there _ _ _ _ p.0 p.1 (le_refl _) _ c.node.ensures

pub look_below-low-requires : goal.look_below-low-requires
look_below-low-requires c =
    let p = c.requires in
    low_opens _ _ _ _ p.0 p.1 (le_refl _) _ c.node.ensures _ _ _ c.record_at.ensures _ _ c.cofactors-sides.ensures

pub overflow_sub-rest : goal.overflow_sub-rest
overflow_sub-rest c =
    let p = c.requires in
    off_fits _ _ _ _ p.0 p.1 (le_refl _) _ c.node.ensures _ _ _ c.record_at.ensures _ _ c.cofactors-sides.ensures _ _ c.look_below-low.ensures

pub height_at-requires : goal.height_at-requires
height_at-requires c =
    let p = c.requires in
    high_room _ _ _ _ p.0 p.1 (le_refl _) _ c.node.ensures _ _ _ c.record_at.ensures _ _ c.cofactors-sides.ensures _ c.node-then-choice.ensures

pub returns-then-choice : goal.returns-then-choice
returns-then-choice c =
    let p = c.requires in
    goes_high _ _ _ _ p.0 p.1 (le_refl _) _ c.node.ensures _ _ _ c.record_at.ensures _ _ c.cofactors-sides.ensures _ _ c.look_below-low.ensures
    _ _ c.choose-choice.ensures c.if-choice.true refl _ c.node-then-choice.ensures c.height_at.ensures.0 refl

pub returns-else-choice : goal.returns-else-choice
returns-else-choice c =
    let p = c.requires in
    goes_low _ _ _ _ p.0 p.1 (le_refl _) _ c.node.ensures _ _ _ c.record_at.ensures _ _ c.cofactors-sides.ensures _ _ c.look_below-low.ensures
    _ _ c.choose-choice.ensures c.if-choice.false refl refl refl
