-- `walking::fork_at` meets its contract. Assumes nothing.
use native.Mathlib.Omega.{arith}
use Rattle.walking.proofs.Forking.{node_room, forks}
use Rattle.walking.proofs.fork_at.Goals as goal

pub record_at-record-requires : goal.record_at-record-requires
record_at-record-requires c = let p = c.requires in (omega (arith, c.node.ensures, p.1), node_room _ _ _ _ p.0.1 c.node.ensures)

pub returns : goal.returns
returns c =
    λ n L. forks _ n _ _ L c.node.ensures (omega (arith, c.node.ensures, c.requires.1)) _ _ _ c.record_at-record.ensures _ _ c.cofactors-sides.ensures
