-- `merging::number_level` meets its contract. Assumes nothing.
use mathlib.Core.Path.{sym, ap, ◌∙◌}
use mathlib.Core.Bool.{true, false}
use native.Mathlib.Omega.{arith}
use borrow.Author.Rules.{rules}
use Rattle.merging.specs.Inner.{cut_node}
use Rattle.merging.proofs.Levels.{level_limits, comes_first, comes_next, moved_both}
use Rattle.merging.proofs.Ends.{passed_as, reached_trans}
use Rattle.merging.proofs.number_level.Goals as goal

pub overflow_sub-limit : goal.overflow_sub-limit
overflow_sub-limit c = omega (arith, c.requires.2.fronts.low false)

pub number_table-below-requires : goal.number_table-below-requires
number_table-below-requires c =
    let p = c.requires in
    (p.0, p.1, p.2, level_limits _ _ _ _ _ _ _ _ (p.4 ∙ sym p.3) (p.2.fronts.low false) (omega (arith, p.3)))

pub number_cut-between-requires : goal.number_cut-between-requires
number_cut-between-requires c =
    let p = c.requires in
    let t = c.number_table-below.ensures in
    let P = passed_as t.1 t.2 t.0 in (
      omega (arith, p.0, P.passing.reached.same_length),
      p.1,
      P.passing.reached.merging,
      comes_first _ _ _ _ _ _ _ _ _ _ _ _ p.1 c.args.cut.now.few_settings c.args.cut.now.few_nodes (t.2 ∙ p.4 ∙ sym (t.1 ∙ p.3)) (omega (arith, t.1, p.3, p.5)) (omega (arith, t.1, p.3)) P _ _ _ _ _ _ _
          (c.cut_node.ensures ∙ ap (cut_node c.args.cut.now.nodes c.args.cut.now.n false) (sym (t.1 ∙ p.3))) c.key_in-a.ensures
          (c.cut_node-2.ensures ∙ ap (cut_node c.args.cut.now.nodes c.args.cut.now.n true) (sym (t.1 ∙ p.3))) c.key_in-b.ensures (search rules),
    )

pub number_cut-requires : goal.number_cut-requires
number_cut-requires c =
    let p = c.requires in
    let t = c.number_table-below.ensures in
    let P = passed_as t.1 t.2 t.0 in
    let m = c.number_cut-between.ensures in (
      omega (arith, p.0, (m.0.same_length ∙ P.passing.reached.same_length)),
      p.1,
      m.0.merging,
      comes_next _ _ _ _ _ _ _ _ _ _ _ _ p.1 c.args.cut.now.few_settings c.args.cut.now.few_nodes (t.2 ∙ p.4 ∙ sym (t.1 ∙ p.3)) (omega (arith, t.1, p.3, p.5))
          (omega (arith, t.1, p.3)) P _ _ _ _ _ _ _ m.0.ahead m.1 m.0.merging,
    )

pub returns : goal.returns
returns c =
    let p = c.requires in
    let t = c.number_table-below.ensures in
    let m = c.number_cut-between.ensures in
    let k = c.number_cut.ensures in
    let b = moved_both _ _ _ _ _ _ _ m.1 k.1 (t.2 ∙ p.4 ∙ sym (t.1 ∙ p.3)) in
    (reached_trans t.0.passing.reached (reached_trans m.0 k.0), omega (arith, b.0, t.1, p.3), omega (arith, b.1, t.1, p.3))
