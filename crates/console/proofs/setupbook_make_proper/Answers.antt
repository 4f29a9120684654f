-- `console::setupbook_make_proper` meets its contract. Assumes nothing.
use Prim.Native.Nat.{ℕ}
use Rattle.tightening.proofs.Promised.{as_defined}
use Rattle.telling.specs.Told.{single}
use Rattle.telling.proofs.Telling.{told_as}
use Rattle.console.proofs.setupbook_make_proper.Goals as goal

pub returns : goal.returns
returns c =
    let e = c.make_proper-written.ensures in
    let w = told_as (λ (m : ℕ). m) single _ _ e.answers _ _ c.tell.ensures in
    (w.0, w.1, as_defined e)
