use mathlib.Core.Bool.{false, not}
use native.Mathlib.Omega.{arith}
use Rattle.walking.specs.Inner.{Forks}
use Rattle.neighbours.proofs.Seeking.{seeks_first, seeks_last, side_within, found_off, found_on, found_none}
use Rattle.neighbours.proofs.beside.Goals as goal
use Rattle.neighbours.proofs.beside.Goals.{After-fork_at-fork, then-permitted_under+else-on, else-permitted_under}

pub loop-x-init : goal.loop-x-init
loop-x-init c = let p = c.requires in seeks_first _ _ _ p.0 p.2

pub fork_at-fork-requires : goal.fork_at-fork-requires
fork_at-fork-requires c = (c.loop-x.invariant.lies, omega (arith, c.node.ensures, c.loop-x-test.true))

forks : (c : After-fork_at-fork) → let r = c.fork_at-fork.result in Forks c.args.table.now c.loop-x.invariant.lies.0 c.loop-x.edge.value r.height r.sides.high.value r.sides.low.value
forks c = c.fork_at-fork.ensures _ c.loop-x.invariant.lies.1

pub setting-on-requires : goal.setting-on-requires
setting-on-requires c = let F = forks c in (F.tall, omega (arith, F.few, (F.lies false).holds.few_settings))

pub permitted_under-requires : goal.permitted_under-requires
permitted_under-requires c = side_within _ _ _ _ _ _ (forks (goal.at.permitted_under-requires c).After-fork_at-fork) (not c.setting-on.result) _ c.at.ensures

pub set_setting-y-requires : goal.set_setting-y-requires
set_setting-y-requires c =
    let F = forks (goal.at.set_setting-y-requires c).After-fork_at-fork in
    (F.tall, omega (arith, F.few, (F.lies false).holds.few_settings), c.requires.1)

pub returns-then-on : goal.returns-then-on
returns-then-on c =
    found_off _ _ _ _ _ c.loop-x.invariant _ _ _ (forks (goal.at.returns-then-on c).After-fork_at-fork) _ c.setting-on.ensures _ c.at.ensures _ c.permitted_under.ensures c.if-permitted_under.true c.if-on.true _ c.set_setting-y.ensures

pub loop-x-preserved : goal.loop-x-preserved
loop-x-preserved c =
    let K = c.loop-x.invariant in
    let on = c.setting-on.ensures in
    let p = c.permitted_under.ensures in
    elim c.if-permitted_under.branch [
      | then-permitted_under+else-on s ↦ rw s.best-is (found_on _ _ _ _ _ K _ _ _ (forks (goal.at.loop-x-preserved c).After-fork_at-fork) _ on _ c.at.ensures _ p s.if-permitted_under.true s.if-on.false _ _ s.set_setting-y.ensures c.at-edge.ensures)
      | else-permitted_under s ↦ rw s.best-is (found_none _ _ _ _ _ K _ _ _ (forks (goal.at.loop-x-preserved c).After-fork_at-fork) _ on _ c.at.ensures _ p s.if-permitted_under.false _ c.at-edge.ensures)
    ]

pub loop-x-smaller : goal.loop-x-smaller
loop-x-smaller c =
    let F = forks (goal.at.loop-x-smaller c).After-fork_at-fork in
    rw c.at-edge.ensures (omega (arith, F.height_is, F.lower c.setting-on.result))

pub returns : goal.returns
returns c = seeks_last _ _ _ _ _ c.loop-x.invariant (omega (arith, c.node.ensures, c.loop-x-test.false))
