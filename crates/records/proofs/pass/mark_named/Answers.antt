-- `records::pass::mark_named` meets its contract. Assumes nothing.
use Prim.Native.Nat.{ℕ}
use mathlib.Core.Path.{ap₂}
use native.Mathlib.Omega.{arith}
use lib.ListN.{set, length-set}
use Rattle.records.proofs.pass.mark_named.Goals as goal

pub returns : goal.returns
returns c = ap₂ (λ (i j : ℕ). set (set c.args.marks.now i 1) j 1) c.node.ensures c.node-2.ensures

pub bounds-marks-node-2 : goal.bounds-marks-node-2
bounds-marks-node-2 c = simp length-set (omega arith)

pub shape_of-marks : goal.shape_of-marks
shape_of-marks c = simp length-set
