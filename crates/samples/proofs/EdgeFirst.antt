-- The samples of the two orders hold, all of them: by computing. Assumes nothing.
use mathlib.Core.Path.{refl}
use Rattle.words.specs.Words.{be_at, word_at, bytes_of}
use Rattle.diagram.specs.Format.{high_field, middle_field, low_field, settings, nodes, root, height, then_edge, else_edge}
use Rattle.diagram.specs.Answer.{and_then, each}
use Rattle.diagram.specs.Rules.{misled, check_record, wrong_root, check_header_of, check_records, check_diagram, check}
use Rattle.checking.specs.Operations.{checking_for}
use Rattle.checking.specs.EdgeFirst.{former_record, former_for}
use Rattle.samples.specs.Samples.{table, sheet, All}
use Rattle.samples.specs.EdgeFirst.{higher, level, itself, flat, fallen, astray, orders, edge_samples}

pub edges_hold : All edge_samples
unfolding table sheet All higher level itself flat fallen astray orders edge_samples be_at word_at bytes_of high_field middle_field low_field settings nodes root height then_edge else_edge and_then each misled check_record wrong_root check_header_of check_records check_diagram check checking_for former_record former_for
edges_hold = (refl, (refl, (refl, (refl, (refl, (refl, tt))))))
