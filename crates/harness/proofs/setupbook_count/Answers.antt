-- `harness::setupbook_count` meets its contract. Assumes nothing.
use mathlib.Core.Path.{sym, ap, ◌∙◌}
use Rattle.checking.specs.Answers.{counted_as}
use Rattle.rules.proofs.Packing.{packed_value, packed_refusal}
use Rattle.checking.proofs.Bounds.{counting_place}
use Rattle.harness.proofs.setupbook_count.Goals as goal

pub pack_refusal-requires : goal.pack_refusal-requires
pack_refusal-requires c = counting_place _ _ _ _ (sym c.count-counted.ensures.0 ∙ ap counted_as c.in-Err.is)

pub returns-in-Ok : goal.returns-in-Ok
returns-in-Ok c = let e = c.count-counted.ensures in (packed_value _ _ _ e.0 _ (ap counted_as c.in-Ok.is), e.1)

pub returns-in-Err : goal.returns-in-Err
returns-in-Err c = let e = c.count-counted.ensures in (packed_refusal _ _ _ e.0 _ _ _ (ap counted_as c.in-Err.is) c.pack_refusal.ensures, e.1)
