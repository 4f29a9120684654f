-- The pairs of tables that differ and permit the same setups are such pairs, all of them: by computing. Assumes nothing.
use mathlib.Core.Path.{refl}
use Rattle.words.specs.Words.{be_at, word_at, bytes_of}
use Rattle.diagram.specs.Format.{high_field, middle_field, low_field, settings, nodes, root, height, then_edge, else_edge}
use Rattle.diagram.specs.Meaning.{bit, branch, flip, holds, plain, under, permitted}
use Rattle.diagram.specs.Count.{some_below}
use Rattle.diagram.specs.Answer.{and_then, each}
use Rattle.diagram.specs.Rules.{misled, check_record, names, named, check_named, wrong_root, check_header_of, check_records, check_names, check_diagram, check}
use Rattle.samples.specs.Samples.{table, single, members, setups, All}
use Rattle.samples.specs.EqualFiles.{always, left_over, idle, never, too_tall, on, turned, chosen, exchanged, first_on, unused, two_tables, equal_samples}

pub equals_hold : All equal_samples
unfolding table single always left_over idle never too_tall on turned chosen exchanged first_on unused two_tables equal_samples members setups All be_at word_at bytes_of high_field middle_field low_field settings nodes root height then_edge else_edge bit branch flip holds plain under permitted some_below and_then each misled check_record names named check_named wrong_root check_header_of check_records check_names check_diagram check
equals_hold = (refl, (refl, (refl, (refl, (refl, (refl, (refl, (refl, (refl, tt)))))))))
