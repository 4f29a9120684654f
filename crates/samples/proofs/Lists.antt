-- The samples of lists hold, all of them: by computing. Assumes nothing.
use mathlib.Core.Path.{refl}
use Rattle.words.specs.Words.{be_at, word_at, bytes_of, words_bytes, words_over}
use Rattle.diagram.specs.Format.{high_field, middle_field, low_field, settings, nodes, root, height, then_edge, else_edge}
use Rattle.diagram.specs.Meaning.{bit, branch, flip, holds, plain, under, permitted}
use Rattle.diagram.specs.Count.{indicator, count_below, select, some_below}
use Rattle.diagram.specs.Answer.{and_then, or_refuse, each}
use Rattle.diagram.specs.Rules.{misled, check_record, names, named, check_named, wrong_root, check_header_of, check_records, check_names, check_diagram, check}
use Rattle.checking.specs.Operations.{checking_for}
use Rattle.ranking.specs.Operations.{unrank_setup}
use Rattle.lists.specs.Operations.{check_rise, check_rising, at_place, check_rank, check_ranks, unrank_items, unranking_list, value_of, setup_at, setups_by, setups_after}
use Rattle.samples.specs.Samples.{table, A, empty, sheet, All}
use Rattle.samples.specs.Lists.{list, answer, after, list_samples}

pub lists_hold : All list_samples
unfolding table A empty sheet All list answer after list_samples be_at word_at bytes_of words_bytes words_over high_field middle_field low_field settings nodes root height then_edge else_edge bit branch flip holds plain under permitted indicator count_below select some_below and_then each misled check_record names named check_named wrong_root check_header_of check_records check_names check_diagram check checking_for or_refuse unrank_setup check_rise check_rising at_place check_rank check_ranks unrank_items unranking_list value_of setup_at setups_by setups_after
lists_hold = (refl, (refl, (refl, (refl, (refl, (refl, (refl, (refl, tt))))))))
