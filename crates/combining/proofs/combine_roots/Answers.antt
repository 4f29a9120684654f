-- `combining::combine_roots` meets its contract: the pairs are found, made ready and written as a table. Assumes nothing.
use mathlib.Core.Path.{subst}
use native.Mathlib.Omega.{arith}
use Rattle.pairing.specs.Inner.{Outcome}
use Rattle.tables.proofs.Writes.{writes_same}
use Rattle.combining.proofs.Nodes.{pairs_diagram, pairs_mean, first_means}
use Rattle.combining.proofs.Outcomes.{too_many_pairs, pairs_fit}
use Rattle.combining.proofs.combine_roots.Goals as goal

pub returns-in_default : goal.returns-in_default
returns-in_default c =
    too_many_pairs _ _ _ _ _ _ _ _ (subst (Outcome _ _) c.in_default.is c.explore-found.ensures.1)

pub ready_all-requires : goal.ready_all-requires
ready_all-requires c =
    let p = c.requires in
    let e = c.explore-found.ensures in
    let A = subst (Outcome _ _) c.in-Some.is e.1 in
    (omega (arith, p.2, e.0), A.few, A.inside)

pub write_root-requires : goal.write_root-requires
write_root-requires c =
    let p = c.requires in
    let e = c.explore-found.ensures in
    let A = subst (Outcome _ _) c.in-Some.is e.1 in
    let r = c.ready_all.ensures in
    pairs_diagram _ _ _ _ _ _ _ _ _ _ A r.0 (omega (arith, p.2, e.0, r.1)) p.0.few_settings

pub returns : goal.returns
returns c =
    let p = c.requires in
    let e = c.explore-found.ensures in
    let A = subst (Outcome _ _) c.in-Some.is e.1 in
    let r = c.ready_all.ensures in
    pairs_fit _ _ _ _ _ _ _ _ (omega (arith, A.counted, A.few)) _ _
    (writes_same _ _ _ (λ x l. first_means _ _ _ _ _ _ _ _ _ _ A r.0 (omega (arith, p.1.few)) x) (c.write_root.ensures.writes _ (pairs_mean _ _ _ _ _ _ _ _ _ _ A r.0)))
