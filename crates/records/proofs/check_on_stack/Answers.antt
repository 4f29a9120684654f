-- `records::check_on_stack` meets its contract: an array of zeros has no mark. Assumes nothing.
use native.Mathlib.Omega.{arith}
use borrow.Author.Rules.{rules}
use Rattle.words.specs.Words.{word_at}
use Rattle.records.proofs.Marks.{no_marks}
use Rattle.records.proofs.check_on_stack.Goals as goal

pub whole_as_slice-check_named : goal.whole_as_slice-check_named
whole_as_slice-check_named g c = omega (arith, c.requires.3)

pub check_named-requires : goal.check_named-requires
check_named-requires g c = (c.requires.0, c.requires.1, search rules, no_marks g.row.M (word_at c.args.table.now))
