-- `console::setupbook_closest` meets its contract. Assumes nothing.
use Rattle.correcting.specs.declared.Correction.{Correction}
use Rattle.telling.specs.Told.{double}
use Rattle.telling.proofs.Telling.{told_as}
use Rattle.console.proofs.setupbook_closest.Goals as goal

pub returns : goal.returns
returns c =
    let e = c.closest-corrected.ensures in
    let w = told_as (λ (c : Correction). (c.setup.0, c.distance)) double _ _ e.0 _ _ c.tell.ensures in
    (w.0, w.1, e.1)
