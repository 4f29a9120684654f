-- `numbering::normal_word` meets its contract. Assumes nothing.
use mathlib.Core.Path.{ap, ◌∙◌}
use native.Mathlib.Omega.{arith}
use Rattle.diagram.specs.Reading.{record_of}
use Rattle.diagram.proofs.Edges.{turn_lt}
use Rattle.numbering.specs.Renewal.{normal}
use Rattle.numbering.proofs.normal_word.Goals as goal

pub word-requires : goal.word-requires
word-requires c =
    let p = c.requires in
    (p.0, omega (arith, p.1), rw c.turned_by.ensures (turn_lt _ _ 268435456 p.2))

pub returns : goal.returns
unfolding normal
returns c = c.word.ensures ∙ ap (record_of _ _) c.turned_by.ensures
