-- `merging::number_cut` meets its contract. Assumes nothing.
use mathlib.Core.Path.{ap, ◌∙◌}
use mathlib.Core.Bool.{true, false}
use native.Mathlib.Omega.{arith}
use Rattle.merging.specs.Inner.{cut_node}
use Rattle.merging.proofs.Lists.{cut_inside}
use Rattle.merging.proofs.Merge.{merging_keyed}
use Rattle.merging.proofs.Cuts.{cut_limits, give_few, cut_reached}
use Rattle.merging.proofs.number_cut.Goals as goal

pub key_in-key-requires : goal.key_in-key-requires
key_in-key-requires c =
    let e = c.cut_node-v.ensures ∙ ap (cut_node c.args.cut.now.nodes c.args.cut.now.n c.args.second) c.front.ensures in
    let i = cut_inside _ _ _ c.requires.1 c.args.second _ c.requires.3.inside in (
      c.requires.0,
      merging_keyed _ _ _ _ _ _ _ _ _ c.requires.1 c.requires.2 c.args.cut.now.few_settings c.args.cut.now.few_nodes,
      omega (arith, e, i.0, c.requires.2.fronts.low c.args.second),
      omega (arith, e, i.1),
    )

pub number_table-on-requires : goal.number_table-on-requires
number_table-on-requires c =
    let e = c.cut_node-v.ensures ∙ ap (cut_node c.args.cut.now.nodes c.args.cut.now.n c.args.second) c.front.ensures in (
      c.requires.0,
      c.requires.1,
      c.requires.2,
      cut_limits _ _ _ _ _ _ _ _ _ _ _ _ _ c.requires.1 c.requires.2 c.args.cut.now.few_settings c.args.cut.now.few_nodes c.requires.3 e c.key_in-key.ensures,
    )

pub give-tally-requires : goal.give-tally-requires
give-tally-requires c =
    let e = c.cut_node-v.ensures ∙ ap (cut_node c.args.cut.now.nodes c.args.cut.now.n c.args.second) c.front.ensures in
    give_few _ _ _ _ _ _ _ _ _ _ _ _ _ c.requires.1 c.requires.2 c.args.cut.now.few_settings c.args.cut.now.few_nodes c.requires.3 e
    c.key_in-key.ensures _ _ _ _ c.number_table-on.ensures.0 c.requires.0

pub moved-requires : goal.moved-requires
moved-requires c =
    let t = c.number_table-on.ensures in
    let f = t.0.passing.reached.merging.fronts in
    (omega (arith, t.1, f.high false, c.args.cut.now.few_settings), omega (arith, t.2, f.high true, c.args.cut.now.few_settings))

pub returns : goal.returns
returns c =
    let e = c.cut_node-v.ensures ∙ ap (cut_node c.args.cut.now.nodes c.args.cut.now.n c.args.second) c.front.ensures in
    let t = c.number_table-on.ensures in
    let m = c.moved.ensures in
    let T = rw (t.1, t.2) at m.1 in (
      rw (m.0, m.2, m.3) (cut_reached _ _ _ _ _ _ _ _ _ _ _ _ _ c.requires.1 c.requires.2 c.args.cut.now.few_settings c.args.cut.now.few_nodes c.requires.3 e c.key_in-key.ensures _ _ _ _ t.0
          _ _ _ _ _ c.requires.0 c.give-tally.ensures T),
      T,
    )
