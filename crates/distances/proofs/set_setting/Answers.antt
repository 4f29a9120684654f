-- `distances::set_setting` meets its contract. Assumes nothing.
use native.Mathlib.Omega.{arith}
use lib.Pow.{shr_le}
use Rattle.diagram.proofs.Bits.{shl_pos}
use Rattle.distances.proofs.Settings.{before_fits, set_code, sum_fits}
use Rattle.distances.proofs.set_setting.Goals as goal

pub overflow_mul-before : goal.overflow_mul-before
overflow_mul-before c = let a = c.args in record { fits = omega (arith, shr_le a.x.0 a.h) }

pub overflow_add-before : goal.overflow_add-before
overflow_add-before c = let p = c.requires in record { fits = before_fits c.args.on _ _ p.0 p.1 p.2 _ c.from.ensures }

pub nonzero_rem-behind : goal.nonzero_rem-behind
nonzero_rem-behind c = shl_pos _ (omega (arith, c.requires.1))

pub overflow_add-result : goal.overflow_add-result
overflow_add-result c = let p = c.requires in record { fits = sum_fits c.args.on _ _ p.0 p.1 p.2 _ c.from.ensures }

pub returns : goal.returns
returns c = let p = c.requires in set_code c.args.on _ _ p.0 p.1 p.2 _ c.from.ensures
