-- `pairing::explore` meets its contract. Assumes nothing.
use mathlib.Core.Path.{refl, ◌∙◌}
use native.Mathlib.Omega.{arith}
use Rattle.pairing.proofs.Exploring.{root_within, none_held, root_full, all_pairs}
use Rattle.pairing.proofs.explore.Goals as goal

pub returns-then-p-eq0 : goal.returns-then-p-eq0
returns-then-p-eq0 c =
    let p = c.requires in
    (refl, rw c.if-p-eq0.true (none_held _ _ _ _ _ p.0 p.1))

pub visit-requires : goal.visit-requires
visit-requires c =
    let p = c.requires in
    let e = c.clear.ensures in
    (omega (arith, c.if-p-eq0.false), omega (arith, p.2, e.0), e.1.keys, root_within _ _ _ _ _ p.0 p.1)

pub returns-in_err-count : goal.returns-in_err-count
returns-in_err-count c =
    let p = c.requires in
    let e = c.in_err-count.ensures in
    rw c.from_residual.ensures
    (e.0 ∙ c.clear.ensures.0, root_full _ _ _ _ _ p.0 p.1 _ _ e.1)

pub returns : goal.returns
returns c =
    let p = c.requires in
    let e = c.in_ok-count.ensures in
    (e.0 ∙ c.clear.ensures.0, all_pairs _ _ _ _ _ p.0 p.1 _ _ _ _ _ e.1)
