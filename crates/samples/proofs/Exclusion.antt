-- The samples of setups ruled out hold, all of them: by computing. Assumes nothing.
use mathlib.Core.Path.{refl}
use Rattle.words.specs.Words.{be_at, word_at, bytes_of}
use Rattle.diagram.specs.Format.{high_field, middle_field, low_field, settings, nodes, root, height, then_edge, else_edge}
use Rattle.diagram.specs.Meaning.{bit, branch, flip, holds, plain, under, permitted}
use Rattle.diagram.specs.Count.{indicator, count_below, select, smallest, some_below}
use Rattle.diagram.specs.Answer.{and_then, each}
use Rattle.diagram.specs.Rules.{misled, check_record, names, named, check_named, wrong_root, check_header_of, check_records, check_names, check_diagram, check}
use Rattle.checking.specs.Operations.{checking_for, test_setup}
use Rattle.exclusion.specs.Finding.{agree, begins_as, none_begins, first_ruling, given, finding_by, finding}
use Rattle.exclusion.specs.Operations.{find_setup, ruling_out}
use Rattle.samples.specs.Samples.{table, A, A', A₀, single, empty, sheet, All}
use Rattle.samples.specs.Exclusion.{asked, exclusion_samples}

pub exclusions_hold : All exclusion_samples
unfolding table A A' A₀ single empty sheet All asked exclusion_samples be_at word_at bytes_of high_field middle_field low_field settings nodes root height then_edge else_edge bit branch flip holds plain under permitted indicator count_below select smallest some_below and_then each misled check_record names named check_named wrong_root check_header_of check_records check_names check_diagram check checking_for test_setup agree begins_as none_begins first_ruling given finding_by finding find_setup ruling_out
exclusions_hold = (refl, (refl, (refl, (refl, (refl, (refl, (refl, (refl, (refl, tt)))))))))
