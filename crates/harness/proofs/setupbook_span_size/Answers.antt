-- `harness::setupbook_span_size` meets its contract. Assumes nothing.
use mathlib.Core.Path.{sym, ap, ◌∙◌}
use Rattle.rules.proofs.Packing.{packed_value, packed_refusal}
use Rattle.division.specs.Answers.{spanned_as}
use Rattle.division.proofs.Bounds.{spanning_place}
use Rattle.harness.proofs.setupbook_span_size.Goals as goal

pub pack_refusal-requires : goal.pack_refusal-requires
pack_refusal-requires c = spanning_place _ _ _ _ _ _ (sym c.span-spanned.ensures.0 ∙ ap spanned_as c.in-Err.is)

pub returns-in-Ok : goal.returns-in-Ok
returns-in-Ok c = let e = c.span-spanned.ensures in (packed_value _ _ _ e.0 _ (ap spanned_as c.in-Ok.is), e.1)

pub returns-in-Err : goal.returns-in-Err
returns-in-Err c = let e = c.span-spanned.ensures in (packed_refusal _ _ _ e.0 _ _ _ (ap spanned_as c.in-Err.is) c.pack_refusal.ensures, e.1)
