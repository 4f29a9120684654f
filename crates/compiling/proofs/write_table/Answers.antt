-- `compiling::write_table` meets its contract: the header is stored, and then the records. Assumes nothing.
use mathlib.Core.Path.{◌∙◌}
use native.Mathlib.Omega.{arith}
use borrow.Author.Rules.{rules}
use Rattle.words.proofs.Stores.{stored, stored_long}
use Rattle.compiling.proofs.Copying.{copied_under}
use Rattle.compiling.proofs.write_table.Goals as goal

pub returns : goal.returns
returns c =
    let p = c.requires in
    let e = c.put_word.ensures in
    let k = c.copy_records.ensures in
    (copied_under _ _ _ _ _ _ _ (stored _ _ _ _ e (omega (arith, p.1)) (search rules)) c.word.ensures k.0, k.1 ∙ stored_long _ _ _ _ e (omega (arith, p.1)))
