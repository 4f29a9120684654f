-- The samples of closest setups hold, all of them: by computing. Assumes nothing.
use mathlib.Core.Path.{refl}
use mathlib.Core.Bool.{xor}
use Rattle.words.specs.Words.{be_at, word_at, bytes_of}
use Rattle.diagram.specs.Format.{high_field, middle_field, low_field, settings, nodes, root, height, then_edge, else_edge}
use Rattle.diagram.specs.Meaning.{bit, branch, flip, holds, plain, under, permitted}
use Rattle.diagram.specs.Count.{indicator, count_below, select, smallest, some_below}
use Rattle.diagram.specs.Answer.{and_then, or_refuse, each}
use Rattle.diagram.specs.Rules.{misled, check_record, names, named, check_named, wrong_root, check_header_of, check_records, check_names, check_diagram, check}
use Rattle.checking.specs.Operations.{checking_for, test_setup}
use Rattle.distances.specs.Distance.{distance}
use Rattle.correcting.specs.Search.{is_at, fewest, closest_at, closest}
use Rattle.correcting.specs.Operations.{closest_setup, correcting}
use Rattle.samples.specs.Samples.{table, A, A', single, empty, sheet, All}
use Rattle.samples.specs.Correcting.{corrected, correcting_samples}

pub corrections_hold : All correcting_samples
unfolding table A A' single empty sheet All corrected correcting_samples be_at word_at bytes_of high_field middle_field low_field settings nodes root height then_edge else_edge bit branch flip holds plain under permitted indicator count_below select smallest some_below and_then or_refuse each misled check_record names named check_named wrong_root check_header_of check_records check_names check_diagram check checking_for test_setup xor distance is_at fewest closest_at closest closest_setup correcting
corrections_hold = (refl, (refl, (refl, (refl, (refl, (refl, (refl, (refl, (refl, (refl, tt))))))))))
