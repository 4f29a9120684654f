-- `pairing::pair_height` meets its contract. Assumes nothing.
use mathlib.Core.Path.{◌∙◌}
use native.Mathlib.Omega.{arith}
use Rattle.pairing.proofs.Pairs.{first_room, second_room, higher}
use Rattle.pairing.proofs.pair_height.Goals as goal

pub height_at-a-requires : goal.height_at-a-requires
height_at-a-requires c = first_room _ _ _ c.requires

pub height_at-b-requires : goal.height_at-b-requires
height_at-b-requires c = second_room _ _ _ c.requires

pub returns : goal.returns
returns c =
    let a = c.height_at-a.ensures in
    let b = c.height_at-b.ensures in
    (c.max.ensures ∙ higher _ _ _ c.requires _ _ a.0 b.0, omega (arith, c.max.ensures, a.1, b.1))
