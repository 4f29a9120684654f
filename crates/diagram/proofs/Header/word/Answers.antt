-- `diagram::Header::word` meets its contract. Assumes nothing.
use mathlib.Core.Path.{refl}
use Rattle.diagram.specs.Reading.{record_of}
use Rattle.diagram.proofs.Header.word.Goals as goal

pub returns : goal.returns
unfolding record_of
returns c = refl
