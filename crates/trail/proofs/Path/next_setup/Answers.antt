-- `trail::Path::next_setup` meets its contract. Assumes nothing.
use mathlib.Core.Path.{refl}
use Rattle.trail.proofs.Resuming.{resumed}
use Rattle.trail.proofs.Path.next_setup.Goals as goal
use Rattle.trail.proofs.Path.next_setup.Goals.{After-leave-h}

pub follow-x-requires : goal.follow-x-requires
follow-x-requires c =
    let l = c.leave-h.ensures in
    let p = c.requires in
    (p.0, p.1, resumed _ _ _ _ _ _ _ _ p.2 _ l.0 l.1 _ _ c.look_below-below.ensures _ refl refl refl refl refl)

pub returns : goal.returns
returns c =
    let l = c.leave-h.ensures in
    (λ n root R. c.follow-x.ensures n root (resumed _ _ _ _ _ _ _ _ R _ l.0 l.1 _ _ c.look_below-below.ensures _ refl refl refl refl refl), refl)
