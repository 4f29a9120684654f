-- `pascal::binomials` meets its contract: the constant is the triangle, by computation, which obeys the rule. Assumes nothing.
use mathlib.Core.Path.{refl}
use Rattle.pascal.proofs.Pascal.{sums, row, triangle, table_obeys}
use Rattle.pascal.proofs.binomials.Goals as goal

pub returns : goal.returns
unfolding sums row triangle
returns c = table_obeys _ 64 refl
