-- `keys::stride_of` meets its contract. Assumes nothing.
use Prim.Native.Nat.{◌%◌}
use native.Mathlib.Omega.{arith}
use Rattle.keys.specs.Keys.{stride}
use Rattle.keys.proofs.Probing.{scaled_below}
use Rattle.keys.proofs.stride_of.Goals as goal

pub overflow_add-result : goal.overflow_add-result
overflow_add-result c =
    omega (arith, c.scaled_to.ensures, scaled_below c.args.p (c.args.mix % 4294967296) c.requires (omega arith))

pub returns : goal.returns
unfolding stride
returns c = rw c.scaled_to.ensures
