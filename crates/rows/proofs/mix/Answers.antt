use Rattle.std.proofs.Common.{◌+◌, ◌*◌, ◌≤◌, length, refl, ◌∙◌, arith, rules}
use Rattle.rows.proofs.Placing.{store_long, mixed_next}
use Rattle.rows.proofs.mix.Goals as goal

pub loop-i-preserved : goal.loop-i-preserved
loop-i-preserved c =
    let a = c.args in
    let i = c.loop-i.invariant in
    let l = c.loop-i-test.true in
    let long : 8 * (a.to + c.loop-i.i) + 8 ≤ length c.loop-i.sheet = omega (arith, c.requires.3, i.1) in (
      mixed_next _ _ _ _ _ _ _ i.0 (omega (arith, c.requires.0)) (omega (arith, c.requires.1)) (omega (arith, c.requires.2)) _ _ _ _ _
          (search rules) c.load.ensures (search rules) c.load-in-loop-i.ensures (search rules) c.load-less.ensures refl
          (omega arith) (omega arith) long _ c.store.ensures,
      store_long _ _ _ _ long c.store.ensures ∙ i.1,
    )
