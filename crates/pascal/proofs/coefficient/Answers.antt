-- `pascal::coefficient` meets its contract: where an entry stands. Assumes nothing.
use native.Mathlib.Omega.{arith}
use Rattle.pascal.proofs.Pascal.{place_inside, rule_entry}
use Rattle.pascal.proofs.coefficient.Goals as goal

pub overflow_mul-result : goal.overflow_mul-result
overflow_mul-result c = let p = c.requires in record { fits = omega (arith, place_inside _ _ p.1 p.2) }

pub overflow_add-result-2 : goal.overflow_add-result-2
overflow_add-result-2 c = let p = c.requires in record { fits = omega (arith, place_inside _ _ p.1 p.2) }

pub offset_bounds-table-g : goal.offset_bounds-table-g
offset_bounds-table-g c = let p = c.requires in record { fits = omega (arith, place_inside _ _ p.1 p.2) }

pub bounds-table-g : goal.bounds-table-g
bounds-table-g c = let p = c.requires in place_inside _ _ p.1 p.2

pub returns : goal.returns
returns c = let p = c.requires in rule_entry _ 64 p.0 _ _ (omega arith) p.2
