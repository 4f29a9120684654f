-- `division::start_of` meets its contract: the start by quotient and remainder. Assumes nothing.
use native.Mathlib.Omega.{arith}
use Rattle.division.proofs.Sharing.{start_split, split_fits, rest_small, small_fits}
use Rattle.division.proofs.start_of.Goals as goal

pub overflow_mul-result : goal.overflow_mul-result
overflow_mul-result c = let f = split_fits _ _ c.args.c c.requires in record { fits = omega (arith, f) }

pub overflow_mul-result-2 : goal.overflow_mul-result-2
overflow_mul-result-2 c = let r = rest_small _ _ c.args.c c.requires in record { fits = small_fits _ _ (omega arith) (omega arith) }

pub overflow_add-result : goal.overflow_add-result
overflow_add-result c = let f = split_fits _ _ c.args.c c.requires in record { fits = omega (arith, f) }

pub returns : goal.returns
returns c = start_split _ _ _ c.requires
