-- `emitting::write_table` meets its contract. Assumes nothing.
use native.Mathlib.Omega.{arith}
use borrow.Author.Rules.{rules}
use Rattle.emitting.proofs.Numbers.{numbers_fit, records_own, records_header}
use Rattle.emitting.proofs.write_table.Goals as goal

pub emit_table-requires : goal.emit_table-requires
emit_table-requires c =
    let p = c.requires in
    (p.0, p.1, numbers_fit _ _ _ _ _ _ p.3 _ (omega (arith, p.4)), p.2)

pub emit_cuts-requires : goal.emit_cuts-requires
emit_cuts-requires c =
    let p = c.requires in
    (p.0, p.1, numbers_fit _ _ _ _ _ _ p.3 _ (omega (arith, p.4)), records_own c.emit_table.ensures)

pub returns : goal.returns
returns c =
    let p = c.requires in (
      records_header _ _ _ _ _ _ _ _ _ _ _ _ (omega (arith, p.4)) (search rules) c.image_of.ensures c.word.ensures c.put_word.ensures
          c.emit_table.ensures.first c.emit_cuts.ensures,
      search rules,
    )
