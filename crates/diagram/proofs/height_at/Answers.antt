-- `diagram::height_at` meets its contract: the height is the top six bits of the record, so of its first byte. Assumes nothing.
use Prim.Native.Nat.{◌*◌}
use mathlib.Core.Path.{sym}
use native.Mathlib.Omega.{arith}
use borrow.Author.Rules.{rules}
use Rattle.diagram.proofs.Fields.{height_sink, height_byte}
use Rattle.diagram.proofs.height_at.Goals as goal

pub overflow_cast-h : goal.overflow_cast-h
overflow_cast-h c = omega (arith, c.type_inv.table (8 * c.args.k.0))

pub returns-then-i-eq0 : goal.returns-then-i-eq0
returns-then-i-eq0 c = (sym (height_sink _ _ c.if-i-eq0.true), omega arith)

pub returns : goal.returns
returns c =
    let g = c.type_inv.table in
    (height_byte _ _ (search rules) (λ i. omega (arith, g i)), omega (arith, g (8 * c.args.k.0)))
