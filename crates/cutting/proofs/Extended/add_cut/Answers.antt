use mathlib.Core.Path.{refl}
use native.Mathlib.Omega.{arith}
use borrow.Author.Rules.{rules}
use Rattle.diagram.specs.Count.{indicator}
use Rattle.cutting.proofs.Cutting.{cutting_start, cutting_end, cutting_inside, end_none, end_some, cut_down}
use Rattle.cutting.proofs.Extended.add_cut.Goals as goal

pub loop-h-init : goal.loop-h-init
loop-h-init c = (record { table_is = refl; settings_are = refl; nodes_are = refl }, cutting_start _ _ _ _ _ _)

pub cut_step-step-requires : goal.cut_step-step-requires
cut_step-step-requires c =
    let p = c.requires in
    let i = c.loop-h.invariant in
    let d = c.args.self.now in
    let q = cutting_inside _ _ _ _ _ _ _ _ _ p.0 p.1 i.1 in
    (omega (arith, q, p.2, i.0.nodes_are), omega (arith, d.few_nodes, p.2), c.loop-h-test.true, omega (arith, d.few_settings, c.loop-h.auto.h))

pub loop-h-preserved : goal.loop-h-preserved
loop-h-preserved c =
    let p = c.requires in
    let i = c.loop-h.invariant in
    let s = i.0 in (
      record { table_is = s.table_is; settings_are = s.settings_are; nodes_are = s.nodes_are },
      cut_down _ _ _ _ _ _ _ _ _ _ _ _ s.nodes_are p.0 p.1 i.1 c.loop-h-test.true c.loop-h.auto.h _ _ c.cut_step-step.ensures (search rules),
    )

pub returns-then-self-eq0 : goal.returns-then-self-eq0
returns-then-self-eq0 c =
    let i = c.loop-h.invariant in
    (cutting_end _ _ _ _ _ _ _ _ _ c.loop-h-test.false i.1, end_none _ _ _ _ _ (omega (arith, i.0.settings_are, c.if-self-eq0.true)), i.0)

pub returns-else-self-eq0 : goal.returns-else-self-eq0
unfolding indicator
returns-else-self-eq0 c =
    let i = c.loop-h.invariant in (
      cutting_end _ _ _ _ _ _ _ _ _ c.loop-h-test.false i.1,
      end_some _ _ _ _ _ _ (λ q. c.if-self-eq0.false (omega (arith, i.0.settings_are, q))) (omega (arith, c.new.ensures, i.0.settings_are)),
      i.0,
    )
