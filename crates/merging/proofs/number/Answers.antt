use Prim.Native.Nat.{◌+◌}
use mathlib.Core.Path.{◌≡◌, refl, sym, ◌∙◌}
use native.Mathlib.Omega.{arith}
use Rattle.cutting.specs.Behind.{words_of}
use Rattle.merging.specs.Inner.{Reached}
use Rattle.merging.proofs.Ends.{reached_trans, reached_first, finished}
use Rattle.merging.proofs.number.Goals.{Left-loop-h, else-loop-h-test, then-loop-h-test+else-h-h-end}
use Rattle.merging.proofs.number.Goals as goal

-- behind the last level
ended : (c : Left-loop-h) → Reached (words_of c.args.cut.now) c.args.map.now c.loop-h-test.map c.args.cut.now.n c.args.cut.now.nodes 1 c.loop-h-test.at.tally.count c.loop-h-test.at.tally.last c.loop-h-test.at.next c.loop-h-test.at.first c.loop-h-test.at.second × (c.loop-h-test.at.first ≡ c.args.cut.now.n + 1) × (c.loop-h-test.at.second ≡ c.args.cut.now.n + 1)
ended c =
    let i = c.loop-h.invariant in
    elim c.loop-h-test.branch [
      | else-loop-h-test w ↦ rw (w.map-is, w.at-is) (i.1, omega (arith, i.0, i.2, w.loop-h-test.false), omega (arith, i.0, i.3, w.loop-h-test.false))
      | then-loop-h-test+else-h-h-end w ↦ rw (w.map-is, w.at-is) (let e = w.number_level-at.ensures in (reached_trans i.1 e.0, omega (arith, e.1), omega (arith, e.2)))
    ]

pub loop-h-init : goal.loop-h-init
loop-h-init c = (omega arith, reached_first _ _ _ _ c.requires.2, refl, refl)

pub returns : goal.returns
returns c =
    let i = ended (goal.at.returns c).Left-loop-h in
    finished _ _ _ _ _ _ _ _ _ _ c.requires.1 c.args.cut.now.few_settings c.args.cut.now.few_nodes (i.2 ∙ sym i.1) (omega (arith, i.1)) _ _ _ i.0 _ _ c.number_table-end.ensures.0
