-- `harness::setupbook_test` meets its contract. Assumes nothing.
use mathlib.Core.Path.{sym, ap, ◌∙◌}
use Rattle.diagram.proofs.Bits.{bool_byte_lem}
use Rattle.checking.specs.Answers.{tested_as}
use Rattle.rules.proofs.Packing.{packed_value, packed_refusal}
use Rattle.checking.proofs.Bounds.{testing_place}
use Rattle.harness.proofs.setupbook_test.Goals as goal

pub pack_refusal-requires : goal.pack_refusal-requires
pack_refusal-requires c = testing_place _ _ _ _ _ (sym c.test-tested.ensures.0 ∙ ap tested_as c.in-Err.is)

pub returns-in-Ok : goal.returns-in-Ok
returns-in-Ok c =
    let e = c.test-tested.ensures in
    (bool_byte_lem _ ∙ packed_value _ _ _ e.0 _ (ap tested_as c.in-Ok.is), e.1)

pub returns-in-Err : goal.returns-in-Err
returns-in-Err c = let e = c.test-tested.ensures in (packed_refusal _ _ _ e.0 _ _ _ (ap tested_as c.in-Err.is) c.pack_refusal.ensures, e.1)
