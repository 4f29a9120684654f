-- `console::setupbook_count_on` meets its contract. Assumes nothing.
use Prim.Native.Nat.{ℕ}
use Rattle.telling.specs.Told.{single}
use Rattle.telling.proofs.Telling.{told_as}
use Rattle.console.proofs.setupbook_count_on.Goals as goal

pub returns : goal.returns
returns c =
    let e = c.count_on-counted.ensures in
    let w = told_as (λ (m : ℕ). m) single _ _ e.0 _ _ c.tell.ensures in
    (w.0, w.1, e.1)
