-- `console::combine` meets its contract. Assumes nothing.
use Rattle.console.proofs.combine.Goals as goal

pub returns : goal.returns
returns c =
    let told = c.tell_combined.ensures in
    record { reply = _; keeps = c.combine-combined.ensures; returns = told.0; tells = told.1 }
