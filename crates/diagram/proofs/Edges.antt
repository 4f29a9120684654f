-- Edges by their flags: what code does at a set flag and at a clear one, and complements. Assumes nothing.
use Prim.Native.Nat.{ℕ, zero, suc, ◌+◌, ◌-◌, ◌*◌, ◌/◌, ◌%◌, ◌<◌}
use mathlib.Core.Path.{◌≡◌, refl, sym, ◌∙◌}
use mathlib.Core.Bool.{Bool, true, false, not, not-not}
use native.Mathlib.Omega.{arith}
use lib.Dec.{eqb}
use borrow.Author.Tests.{eqb-true, eqb-false}
use Rattle.diagram.specs.Format.{Words}
use Rattle.diagram.specs.Meaning.{flip, plain, under}
use Rattle.diagram.specs.Reading.{opposite, turn}

-- the flag f of edge e
module _ (e : ℕ) (f : Bool) (f-is : f ≡ eqb (e % 2) 1) where
  pub flag_set : f ≡ true → e % 2 ≡ 1
  flag_set q = eqb-true (e % 2) 1 (sym f-is ∙ q)

  pub flag_clear : f ≡ false → e % 2 ≡ 0
  flag_clear q = let o : e % 2 ≡ 1 → ⊥ = eqb-false (e % 2) 1 (sym f-is ∙ q) in omega arith

  -- a count of m under it
  pub opposite_set : f ≡ true → (m c : ℕ) → opposite (e % 2) m c ≡ m - c
  unfolding opposite
  opposite_set q m c = rw (flag_set q)

  pub opposite_clear : f ≡ false → (m c : ℕ) → opposite (e % 2) m c ≡ c
  unfolding opposite
  opposite_clear q m c = rw (flag_clear q)

  -- an edge a turned by it
  pub turned_set : f ≡ true → (a : ℕ) → 2 * (a / 2) + (1 - a % 2) ≡ turn (e % 2) a
  unfolding turn
  turned_set q a = rw (flag_set q)

  pub turned_clear : f ≡ false → (a : ℕ) → a ≡ turn (e % 2) a
  unfolding turn
  turned_clear q a = rw (flag_clear q)

  -- what it permits, with v as its node
  pub under_flagged : (w : Words) (x v : ℕ) → v ≡ e / 2 → f ≡ true → not (plain w v x) ≡ under w e x
  unfolding under flip
  under_flagged w x v v-is q = rw (flag_set q, v-is)

  pub under_plain : (w : Words) (x v : ℕ) → v ≡ e / 2 → f ≡ false → plain w v x ≡ under w e x
  unfolding under flip
  under_plain w x v v-is q = rw (flag_clear q, v-is)

-- a turned edge leads to the same node
pub turn_node : (f e : ℕ) → turn f e / 2 ≡ e / 2
unfolding turn
turn_node zero e = refl
turn_node (suc f) e = omega arith

-- ... and edges that are equal when turned alike were equal
pub turn_inj : (f t e : ℕ) → turn f t ≡ turn f e → t ≡ e
unfolding turn
turn_inj zero t e q = q
turn_inj (suc f) t e q = omega arith

-- ... stays below a limit of edges
pub turn_lt : (f e m : ℕ) → e < 2 * m → turn f e < 2 * m
unfolding turn
turn_lt zero e m l = l
turn_lt (suc f) e m l = omega arith

-- ... and permits the opposite
pub turn_under : (w : Words) (f e x : ℕ) → under w (turn f e) x ≡ flip f (under w e x)
unfolding under flip turn
turn_under w zero e x = refl
turn_under w (suc f) e x = go (e % 2) refl
  where
    node : (2 * (e / 2) + (1 - e % 2)) / 2 ≡ e / 2
    node = omega arith

    go : (d : ℕ) → e % 2 ≡ d → flip ((2 * (e / 2) + (1 - e % 2)) % 2) (plain w ((2 * (e / 2) + (1 - e % 2)) / 2) x) ≡ not (flip (e % 2) (plain w (e / 2) x))
    go zero q = let o : (2 * (e / 2) + (1 - e % 2)) % 2 ≡ 1 = omega arith in rw (node, o, q)
    go (suc zero) q = let o : (2 * (e / 2) + (1 - e % 2)) % 2 ≡ 0 = omega arith in rw (node, o, q) (sym (not-not (plain w (e / 2) x)))
    go (suc (suc d)) q = absurd (omega arith)
