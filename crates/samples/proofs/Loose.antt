-- The samples of a loose table hold, all of them: by computing. Assumes nothing.
use mathlib.Core.Path.{refl}
use Rattle.words.specs.Words.{be_at, word_at, bytes_of}
use Rattle.diagram.specs.Format.{high_field, middle_field, low_field, settings, nodes, root, height, then_edge, else_edge}
use Rattle.diagram.specs.Meaning.{bit, branch, flip, holds, plain, under, permitted}
use Rattle.diagram.specs.Answer.{and_then, each}
use Rattle.diagram.specs.Rules.{wrong_root, check_header_of}
use Rattle.loose.specs.Rules.{astray, check_loose_record, check_loose_records, check_loose}
use Rattle.samples.specs.Samples.{table, A, members, setups, All}
use Rattle.samples.specs.Loose.{loose_a, loose_samples}

pub loose_hold : All loose_samples
unfolding table A loose_a loose_samples members setups All be_at word_at bytes_of high_field middle_field low_field settings nodes root height then_edge else_edge bit branch flip holds plain under permitted and_then each wrong_root check_header_of astray check_loose_record check_loose_records check_loose
loose_hold = (refl, (refl, tt))
