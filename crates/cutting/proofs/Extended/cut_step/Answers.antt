-- `cutting::Extended::cut_step` meets its contract. Assumes nothing.
use native.Mathlib.Omega.{arith}
use Rattle.cutting.specs.Behind.{words_of}
use Rattle.cutting.proofs.Steps.{step_small, step_is}
use Rattle.cutting.proofs.Extended.cut_step.Goals as goal

pub cut_word-word-requires : goal.cut_word-word-requires
cut_word-word-requires c =
    let a = c.before.before.before in
    let q = a.cofactors_in-sides.ensures in
    let p = a.requires in
    let s = step_small _ _ _ _ _ _ _ a.has_setting-on.ensures _ _ q.0 q.1 _ _ a.at-next.ensures c.at.ensures
    _ _ c.inner_edge.ensures c.outer_edge-outer.ensures
    p.3 p.1 (omega (arith, p.0, a.args.self.now.few_nodes)) in
    (p.3, s.0, s.1)

pub returns : goal.returns
returns c =
    let at2 = c.before.before.before in
    let a = at2.before in
    let q = a.cofactors_in-sides.ensures in
    step_is (words_of a.args.self.now) _ _ _ _ _ _ a.has_setting-on.ensures _ _ q.0 q.1 _ _
    a.at-next.ensures at2.at.ensures _ _ c.inner_edge.ensures c.outer_edge-outer.ensures
    a.requires.2 _ c.cut_word-word.ensures
