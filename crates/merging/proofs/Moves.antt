-- The fronts of the cuts move. Assumes nothing.
use Prim.Native.Nat.{ℕ, ◌≤◌, ◌<◌}
use mathlib.Core.Path.{◌≡◌, refl, sym, subst}
use mathlib.Core.Logic.{◌⊎◌, inl, inr}
use mathlib.Core.Bool.{Bool, true, false, true≢false}
use native.Mathlib.Omega.{arith}
use Rattle.merging.specs.Inner.{cut_node, front, Done, in_table, in_cut, Moved}

-- the same side, or the other
pub sides : (d b : Bool) → (d ≡ b) ⊎ (d ≡ b → ⊥)
sides true true = inl refl
sides false false = inl refl
sides true false = inr true≢false
sides false true = inr (λ e. true≢false (sym e))

-- what is done stays done when fronts move
pub done_moves : {N n p q r p' q' r' u : ℕ} {b : Bool} → p ≤ p' → Moved q r q' r' b → Done N n p q r u → Done N n p' q' r' u
done_moves l T (in_table a) = in_table (omega arith)
done_moves {N = N} {n = n} {q = q} {r = r} {q' = q'} {r' = r'} {u = u} {b = b} l T (in_cut d i j) = in_cut d i (elim (sides d b) [
  | inl e ↦ subst (λ (s : Bool). u < cut_node N n s (front q' r' s)) (sym e) (omega (arith, T.here, subst (λ (s : Bool). u < cut_node N n s (front q r s)) e j))
  | inr e ↦ omega (arith, T.there d e)
])
