-- `console::setupbook_ruled_out` meets its contract. Assumes nothing.
use Rattle.exclusion.specs.Answers.{finding_of}
use Rattle.telling.specs.Told.{found_words}
use Rattle.telling.proofs.Telling.{told_as}
use Rattle.console.proofs.setupbook_ruled_out.Goals as goal

pub returns : goal.returns
returns c =
    let e = c.ruled_out-found.ensures in
    let w = told_as finding_of found_words _ _ e.0 _ _ c.tell.ensures in
    (w.0, w.1, e.1)
