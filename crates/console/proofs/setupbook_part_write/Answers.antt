-- `console::setupbook_part_write` meets its contract. Assumes nothing.
use mathlib.Core.Path.{sym, ap, ◌∙◌}
use Rattle.rules.proofs.Packing.{packed_value, packed_refusal}
use Rattle.tables.specs.Answers.{written_as}
use Rattle.parts.proofs.Promised.{as_defined}
use Rattle.parts.proofs.Bounds.{part_place}
use Rattle.console.proofs.setupbook_part_write.Goals as goal

pub pack_refusal-requires : goal.pack_refusal-requires
pack_refusal-requires c = part_place _ _ _ _ _ _ _ (sym c.part_write-written.ensures.answers ∙ ap written_as c.in-Err.is)

pub returns-in-Ok : goal.returns-in-Ok
returns-in-Ok c = let e = c.part_write-written.ensures in (packed_value _ _ _ e.answers _ (ap written_as c.in-Ok.is), as_defined e)

pub returns-in-Err : goal.returns-in-Err
returns-in-Err c = let e = c.part_write-written.ensures in (packed_refusal _ _ _ e.answers _ _ _ (ap written_as c.in-Err.is) c.pack_refusal.ensures, as_defined e)
