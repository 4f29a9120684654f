-- `nearing::costs_of` meets its contract. Assumes nothing.
use mathlib.Core.Path.{◌∙◌}
use native.Mathlib.Omega.{arith}
use Rattle.diagram.proofs.Bits.{bool_byte_lem}
use Rattle.nearing.proofs.costs_of.Goals as goal

pub returns : goal.returns
returns c =
    (omega (arith, c.from.ensures ∙ bool_byte_lem c.args.was), omega (arith, c.from-2.ensures ∙ bool_byte_lem c.args.was))
