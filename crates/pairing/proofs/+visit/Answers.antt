use mathlib.Core.Path.{refl, ◌∙◌}
use native.Mathlib.Omega.{arith}
use Prim.Native.Nat.{ℕ, ◌<◌}
use Rattle.words.specs.Words.{word_at}
use Rattle.pairing.proofs.Pairs.{pair_small}
use Rattle.pairing.proofs.Visiting.{overfull, Branch, high_within, low_within, high_lower, low_lower, no_second, visited}
use Rattle.pairing.proofs.+visit.Goals as goal
use Rattle.pairing.proofs.+visit.Goals.{After-insert_at, After-sides_of-sides}

pub search-requires : goal.search-requires
search-requires t c = let p = c.requires in (p.0, p.1, pair_small _ _ _ p.3, p.2)

pub returns-then-count-p : goal.returns-then-count-p
returns-then-count-p t c =
    let p = c.requires in
    (refl, overfull _ _ _ _ _ _ p.2 p.3 c.in-Err.ensures.0 c.if-count-p.true)

pub insert_at-requires : goal.insert_at-requires
insert_at-requires t c =
    let p = c.requires in
    let S = c.in-Err.ensures in
    let l : c.args.count < c.args.p = omega (arith, p.2.few) in
    (p.1, pair_small _ _ _ p.3, p.2, l, S.0, S.1 l)

-- from the insertion: that there was room
room : (t : ℕ) (c : After-insert_at t) → c.args.count < c.args.p
room t c = omega (arith, c.requires.2.few)

-- the pair leads to two: what is known when they are read
branch : (t : ℕ) (c : After-sides_of-sides t) → Branch
    c.args.table1.now c.args.table2.now (word_at c.args.sheet.now) (word_at c.insert_at.new.sheet)
    c.args.p c.args.count c.args.pair
    c.pair_height-h.result c.sides_of-sides.result.high c.sides_of-sides.result.low
branch t c = record {
  within = c.requires.3;
  room = room t (goal.at.After-sides_of-sides t c).After-insert_at;
  inserted = c.insert_at.ensures.1;
  height_is = c.pair_height-h.ensures.0;
  some = c.if-h-eq0.false;
  high_is = c.sides_of-sides.ensures.0;
  low_is = c.sides_of-sides.ensures.1;
}

pub visit-requires : goal.visit-requires
visit-requires t c =
    let p = c.requires in
    let e = c.insert_at.ensures in
    let N = branch t (goal.at.visit-requires t c).After-sides_of-sides in
    (high_lower _ _ _ _ _ _ _ _ _ _ N _ c.decreases, (p.0, omega (arith, p.1, e.0), e.1.keys, high_within _ _ _ _ _ _ _ _ _ _ N))

pub visit-requires-2 : goal.visit-requires-2
visit-requires-2 t c =
    let p = c.requires in
    let e = c.insert_at.ensures in
    let f = c.in_ok-high.ensures in
    let N = branch t (goal.at.visit-requires-2 t c).After-sides_of-sides in
    (low_lower _ _ _ _ _ _ _ _ _ _ N _ c.decreases, (p.0, omega (arith, p.1, e.0, f.0), f.1.keys, low_within _ _ _ _ _ _ _ _ _ _ N))

pub returns-in_err-low : goal.returns-in_err-low
returns-in_err-low t c =
    let e = c.insert_at.ensures in
    let f = c.in_ok-high.ensures in
    let g = c.in_err-low.ensures in
    rw c.from_residual-in_err-low.ensures
    (g.0 ∙ f.0 ∙ e.0, no_second _ _ _ _ _ _ _ _ _ _ (branch t (goal.at.returns-in_err-low t c).After-sides_of-sides) _ _ _ f.1 g.1)

pub returns : goal.returns
returns t c =
    let e = c.insert_at.ensures in
    let f = c.in_ok-high.ensures in
    let g = c.in_ok-low.ensures in
    let q = c.put_edges.ensures in
    (q.0 ∙ g.0 ∙ f.0 ∙ e.0, visited _ _ _ _ _ _ _ _ _ _ (branch t (goal.at.returns t c).After-sides_of-sides) _ _ _ f.1 _ _ _ _ g.1 q.1)
