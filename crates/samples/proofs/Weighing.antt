-- The samples of setups by how many settings are on hold, all of them: by computing. Assumes nothing.
use mathlib.Core.Path.{refl}
use Rattle.words.specs.Words.{be_at, word_at, bytes_of}
use Rattle.diagram.specs.Format.{high_field, middle_field, low_field, settings, nodes, root, height, then_edge, else_edge}
use Rattle.diagram.specs.Meaning.{bit, branch, flip, holds, plain, under, permitted}
use Rattle.diagram.specs.Count.{indicator, count_below, some_below}
use Rattle.diagram.specs.Answer.{and_then, each}
use Rattle.diagram.specs.Rules.{misled, check_record, names, named, check_named, wrong_root, check_header_of, check_records, check_names, check_diagram, check}
use Rattle.checking.specs.Operations.{checking_for}
use Rattle.pascal.specs.Ones.{ones, count_on}
use Rattle.weighing.specs.Operations.{total_on, counting_on}
use Rattle.samples.specs.Samples.{table, A, A', single, empty, sheet, All}
use Rattle.samples.specs.Weighing.{asked, weighing_samples}

pub weighings_hold : All weighing_samples
unfolding table A A' single empty sheet All asked weighing_samples be_at word_at bytes_of high_field middle_field low_field settings nodes root height then_edge else_edge bit branch flip holds plain under permitted indicator count_below some_below and_then each misled check_record names named check_named wrong_root check_header_of check_records check_names check_diagram check checking_for ones count_on total_on counting_on
weighings_hold = (refl, (refl, (refl, (refl, (refl, (refl, (refl, (refl, (refl, tt)))))))))
