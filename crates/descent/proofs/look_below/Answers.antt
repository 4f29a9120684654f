-- `descent::look_below` meets its contract. Assumes nothing.
use mathlib.Core.Path.{ap, ◌∙◌}
use Rattle.diagram.specs.Format.{height}
use Rattle.diagram.proofs.Inside.{within_room}
use Rattle.descent.proofs.look_below.Goals as goal

pub height_at-height-requires : goal.height_at-height-requires
height_at-height-requires c = rw c.node.ensures (within_room _ _ c.requires.filled.within)

pub count_under-count-requires : goal.count_under-count-requires
count_under-count-requires c = (_, c.requires)

pub returns : goal.returns
returns c =
    record {
      height_is = c.height_at-height.ensures.0 ∙ ap (height _) c.node.ensures;
      count_is = c.count_under-count.ensures _ c.requires;
    }
