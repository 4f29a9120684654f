use mathlib.Core.Path.{◌≡◌}
use native.Mathlib.Omega.{arith}
use lib.ListN.{length}
use Rattle.lists.proofs.Serving.{Serves, serves_first, serves_long, serves_all, serves_resumes, serves_next}
use Rattle.lists.proofs.write_setups.Goals as goal
use Rattle.lists.proofs.write_setups.Goals.{At-loop-i}

pub count_under-requires : goal.count_under-requires
count_under-requires c = (_, c.requires.0)

pub at-path-requires : goal.at-path-requires
at-path-requires c = let l = c.requires.0.few in omega arith

pub loop-i-init : goal.loop-i-init
loop-i-init c = λ root T. serves_first _ _ _ _ _ _ _ _ _ _ T

served : (c : At-loop-i) → let a = c.args in
    Serves a.table.now a.sheet.now a.ranks.now a.n a.root.value a.m a.setups.now c.loop-i.i c.loop-i.setups c.loop-i.path.edges c.loop-i.path.ends c.loop-i.path.last.0
served c = c.loop-i.invariant _ (c.at-path.ensures _ _ c.requires.0 (c.count_under.ensures _ c.requires.0))

long : (c : At-loop-i) → length c.loop-i.setups ≡ length c.args.setups.now
long c = serves_long _ _ _ _ _ _ _ _ _ _ _ _ (served c) c.requires.2 c.loop-i.auto.i-end

pub word_at-requires : goal.word_at-requires
word_at-requires c =
    let l = c.loop-i-test.true in
    omega (arith, c.requires.1)

pub next_setup-x-requires : goal.next_setup-x-requires
next_setup-x-requires c =
    let p = c.requires in
    let l = c.loop-i-test.true in
    let e = c.word_at.ensures in
    (_, _, serves_resumes _ _ _ _ _ _ _ _ _ _ _ _ (served (goal.at.next_setup-x-requires c).At-loop-i) p.2 l _ e (rw e (p.4 _ l)))

pub put_word-requires : goal.put_word-requires
put_word-requires c =
    let l = c.loop-i-test.true in
    omega (arith, long (goal.at.put_word-requires c).At-loop-i, c.requires.2)

pub loop-i-preserved : goal.loop-i-preserved
loop-i-preserved c =
    let p = c.requires in
    let l = c.loop-i-test.true in
    let e = c.word_at.ensures in
    let F = (served (goal.at.loop-i-preserved c).At-loop-i).trail in
    λ root T.
    let S = c.loop-i.invariant root T in
    let R = serves_resumes _ _ _ _ _ _ _ _ _ _ _ _ S p.2 l _ e (omega (arith, e, p.4 _ l, F.top, T.top)) in
    let x = c.next_setup-x.ensures in
    rw x.1 (serves_next _ _ _ _ _ _ _ _ _ _ _ _ S p.2 l _ e p.3 _ _ _ (x.0 _ root R) _ c.put_word.ensures)

pub shape_of-setups : goal.shape_of-setups
shape_of-setups c = long (goal.at.shape_of-setups c).At-loop-i

pub returns : goal.returns
returns c = serves_all _ _ _ _ _ _ _ _ _ _ _ _ (served (goal.at.returns c).At-loop-i) c.requires.2 c.loop-i.auto.i-end c.loop-i-test.false
