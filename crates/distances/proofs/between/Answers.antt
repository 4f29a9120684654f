-- `distances::between` meets its contract. Assumes nothing.
use mathlib.Core.Path.{sym, ap, ◌∙◌}
use native.Mathlib.Nat.{mod-eq_of_lt}
use lib.Bits.{xor_lt}
use lib.Count.{ones}
use borrow.Author.Rules.{rules}
use Rattle.distances.proofs.Distances.{dist_ones}
use Rattle.distances.proofs.between.Goals as goal

pub returns : goal.returns
returns c =
    let a = c.args in
    c.from.ensures ∙ sym (dist_ones 64 a.x.0 a.y.0 ∙ ap ones (mod-eq_of_lt (xor_lt 64 a.x.0 a.y.0 (search rules) (search rules))))
