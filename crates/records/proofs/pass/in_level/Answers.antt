-- `records::pass::in_level` meets its contract. Assumes nothing.
use mathlib.Core.Path.{◌≡◌, sym, ◌∙◌}
use mathlib.Core.Bool.{not}
use lib.Dec.{eqb}
use borrow.Author.Rules.{rules}
use Rattle.records.proofs.Levels.{in_level_lem}
use Rattle.records.proofs.pass.in_level.Goals as goal

pub returns : goal.returns
returns c e =
    let r = c.from-record.result in
    let apart : c.ne.result ≡ not (eqb r.high.value r.low.value) = search rules in
    in_level_lem _ _ _ _ _ _ _ c.from-record.ensures c.if-word-before.false c.if-limit-word.false
    c.if-low-record.false _ c.flagged.ensures c.if-flagged.false (sym apart ∙ e)
