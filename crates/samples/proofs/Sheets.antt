-- The samples of sheets hold, all of them: by computing. Assumes nothing.
use mathlib.Core.Path.{refl}
use Rattle.words.specs.Words.{be_at, word_at, bytes_of, words_bytes, words_over}
use Rattle.diagram.specs.Format.{high_field, middle_field, low_field, settings, nodes, root, height, then_edge, else_edge}
use Rattle.diagram.specs.Meaning.{bit, branch, flip, holds, plain}
use Rattle.diagram.specs.Count.{indicator, count_below, some_below, place}
use Rattle.diagram.specs.Answer.{and_then, each}
use Rattle.diagram.specs.Rules.{misled, check_record, names, named, check_named, wrong_root, check_header_of, check_records, check_names, check_diagram, check}
use Rattle.checking.specs.Operations.{checking_for, sheet_by, blank_for, counts}
use Rattle.samples.specs.Samples.{table, A, All}
use Rattle.samples.specs.Lists.{list}
use Rattle.samples.specs.Sheets.{A₈, A₉, rest, filled, sheet_samples}

pub sheets_hold : All sheet_samples
unfolding table A A₈ A₉ All list rest filled sheet_samples be_at word_at bytes_of words_bytes words_over high_field middle_field low_field settings nodes root height then_edge else_edge bit branch flip holds plain indicator count_below some_below place and_then each misled check_record names named check_named wrong_root check_header_of check_records check_names check_diagram check checking_for sheet_by blank_for counts
sheets_hold = (refl, (refl, (refl, (refl, (refl, (refl, tt))))))
