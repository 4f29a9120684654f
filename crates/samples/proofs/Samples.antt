-- The samples hold, all of the list: by computing, but for 2 ^ 63 setups, which the law of the root edge counts. Assumes nothing.
use mathlib.Core.Path.{◌≡◌, refl, ap, ◌∙◌}
use lib.Dec.{lit≤}
use Rattle.words.specs.Words.{be_at, word_at, bytes_of}
use Rattle.diagram.specs.Format.{high_field, middle_field, low_field, settings, nodes, root, height, then_edge, else_edge}
use Rattle.diagram.specs.Meaning.{bit, branch, flip, holds, plain, under, permitted}
use Rattle.diagram.specs.Count.{indicator, count_below, select, some_below, place, total}
use Rattle.diagram.specs.Reading.{opposite}
use Rattle.diagram.specs.Answer.{value, and_then, or_refuse, each}
use Rattle.diagram.specs.Rules.{misled, check_record, names, named, check_named, wrong_root, check_header_of, check_records, check_names, check_diagram, check}
use Rattle.diagram.proofs.Counts.{share_edge, share_sink}
use Rattle.checking.specs.Operations.{checking_for, counting, test_setup}
use Rattle.ranking.specs.Operations.{rank_setup, ranking, unrank_setup, unranking}
use Rattle.division.specs.Span.{size, start}
use Rattle.division.specs.Operations.{no_part, span_of, spanning}
use Rattle.samples.specs.Samples.{table, A, A', full, single, empty, members, setups, sheet, parts, All, samples}
use Rattle.samples.proofs.PartsOfA.{part_0, part_1}

full_total : total (word_at full) ≡ 9223372036854775808
unfolding full table settings root word_at be_at bytes_of high_field low_field opposite total permitted
full_total = share_edge (word_at full) 0 ∙ share_sink (word_at full)

full_count : counting full (sheet 1) ≡ value 9223372036854775808
unfolding full table sheet counting checking_for settings nodes root word_at be_at bytes_of high_field middle_field low_field check wrong_root check_header_of check_diagram check_records check_names each and_then
full_count = ap value full_total

pub samples_hold : All samples
unfolding table A A' full single empty members setups sheet parts All samples be_at word_at bytes_of high_field middle_field low_field settings nodes root height then_edge else_edge bit branch flip holds plain under permitted indicator count_below select some_below place total and_then each misled check_record names named check_named wrong_root check_header_of check_records check_names check_diagram check checking_for counting test_setup rank_setup ranking or_refuse unrank_setup unranking size start no_part span_of spanning
samples_hold =
    (refl, (refl, (refl, (refl, (refl, (refl, (refl, (refl, (refl, (refl, (refl, (refl, (refl, (part_0 515 32 (lit≤ tt) (lit≤ tt), (part_1 515 40 (lit≤ tt) (lit≤ tt), (full_count, (refl, (refl, (refl, (refl, tt))))))))))))))))))))
