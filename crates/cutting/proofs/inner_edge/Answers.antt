-- `cutting::inner_edge` meets its contract. Assumes nothing.
use Prim.Native.Nat.{ℕ, ◌+◌, ◌-◌, ◌*◌, ◌<◌}
use mathlib.Core.Path.{◌≡◌, refl, ◌∙◌}
use mathlib.Core.Bool.{cond}
use native.Mathlib.Omega.{arith}
use lib.Dec.{eqb}
use borrow.Author.Tests.{ne_eqb}
use Rattle.diagram.specs.Count.{indicator}
use Rattle.cutting.proofs.inner_edge.Goals as goal

-- at a height above 1
further : (base h next r : ℕ) → 0 < h → (h ≡ 1 → ⊥) → r ≡ 2 * (base + h - 1) + 0 → r ≡ cond (eqb (h - 1) 0) next (2 * (base + (h - 1)))
further base h next r p n e = e ∙ rw (ne_eqb (h - 1) 0 (λ q. n (omega arith))) (omega arith)

pub returns-then-h-eq1 : goal.returns-then-h-eq1
returns-then-h-eq1 c = rw c.if-h-eq1.true refl

pub returns-else-h-eq1 : goal.returns-else-h-eq1
unfolding indicator
returns-else-h-eq1 c = further _ _ _ _ c.requires.1 c.if-h-eq1.false c.new.ensures
