-- `nearing::enter_edge` meets its contract: the lesser of the two costs. Assumes nothing.
use mathlib.Core.Path.{ap, ap₂, ◌∙◌}
use lib.ListN.{set}
use Rattle.nearing.specs.Inner.{lesser}
use Rattle.nearing.proofs.Entering.{lesser_min}
use Rattle.nearing.proofs.enter_edge.Goals as goal

pub returns : goal.returns
returns c =
    let a = c.args in
    ap (set a.sheet.now a.e.value) (c.min.ensures ∙ lesser_min _ _ ∙ ap₂ lesser c.costs_of-costs.ensures.0 c.costs_of-costs.ensures.1)
