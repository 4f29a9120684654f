-- Comparing with a bound, setting by setting. Assumes nothing.
use Prim.Native.Nat.{ℕ, zero, suc, ◌+◌, ◌-◌, ◌*◌, ◌/◌, ◌%◌, ◌^◌, ◌<◌}
use mathlib.Core.Path.{◌≡◌, sym, subst, ◌∙◌}
use mathlib.Core.Bool.{Bool, true, false, cond, beq}
use native.Mathlib.Omega.{arith}
use native.Mathlib.Nat.{mod-lt}
use lib.Dec.{eqb, leb, lit<}
use lib.Pow.{pow_pos, mod-pow-add}
use borrow.Author.Tests.{le-leb, lt-leb}
use Rattle.words.proofs.Cases.{less, same, more, tri}
use Rattle.diagram.specs.Meaning.{bit}

-- x is on a bound's side: not below it (side true), or not above it (side false)
abbrev pub on_side : Bool → ℕ → ℕ → Bool
on_side s bound x = cond s (leb bound x) (leb x bound)

-- the low h settings of x: the first of them, and the others
low_settings : (h x : ℕ) → 0 < h → x % 2 ^ h ≡ x / 2 ^ (h - 1) % 2 * 2 ^ (h - 1) + x % 2 ^ (h - 1)
low_settings h x p =
    let e : 1 + (h - 1) ≡ h = omega arith in
    subst (λ (g : ℕ). x % 2 ^ g ≡ x / 2 ^ (h - 1) % 2 * 2 ^ (h - 1) + x % 2 ^ (h - 1)) e (mod-pow-add x 1 (h - 1))

-- comparing h settings: where the first ones differ they decide, or else the others
pub side_settings : (s : Bool) (h a x : ℕ) → 0 < h
    → on_side s (a % 2 ^ h) (x % 2 ^ h) ≡ cond (beq (bit h x) (bit h a)) (on_side s (a % 2 ^ (h - 1)) (x % 2 ^ (h - 1))) (beq (bit h x) s)
unfolding bit
side_settings s h a x p = rw (low_settings h a p, low_settings h x p) (go s (a / c % 2) (x / c % 2) (mod-lt (a / c) (lit< tt)) (mod-lt (x / c) (lit< tt)))
  where
    c : ℕ
    c = 2 ^ (h - 1)

    below : (y : ℕ) → y % c < c
    below y = mod-lt y (pow_pos (h - 1))

    both : (d y z : ℕ) → leb (d * c + y) (d * c + z) ≡ leb y z
    both d y z = elim (tri y z) [
      | less q ↦ le-leb (d * c + y) (d * c + z) (omega arith) ∙ sym (le-leb y z (omega arith))
      | same q ↦ le-leb (d * c + y) (d * c + z) (omega arith) ∙ sym (le-leb y z (omega arith))
      | more q ↦ lt-leb (d * c + y) (d * c + z) (omega arith) ∙ sym (lt-leb y z q)
    ]

    less_first : (y z : ℕ) → y < c → leb (0 * c + y) (1 * c + z) ≡ true
    less_first y z l = le-leb (0 * c + y) (1 * c + z) (omega arith)

    more_first : (y z : ℕ) → z < c → leb (1 * c + y) (0 * c + z) ≡ false
    more_first y z l = lt-leb (1 * c + y) (0 * c + z) (omega arith)

    go : (s : Bool) (d e : ℕ) → d < 2 → e < 2
        → on_side s (d * c + a % c) (e * c + x % c) ≡ cond (beq (eqb e 1) (eqb d 1)) (on_side s (a % c) (x % c)) (beq (eqb e 1) s)
    go true zero zero l m = both 0 (a % c) (x % c)
    go true (suc zero) (suc zero) l m = both 1 (a % c) (x % c)
    go true zero (suc zero) l m = less_first (a % c) (x % c) (below a)
    go true (suc zero) zero l m = more_first (a % c) (x % c) (below x)
    go false zero zero l m = both 0 (x % c) (a % c)
    go false (suc zero) (suc zero) l m = both 1 (x % c) (a % c)
    go false zero (suc zero) l m = more_first (x % c) (a % c) (below a)
    go false (suc zero) zero l m = less_first (x % c) (a % c) (below x)
    go s (suc (suc d)) e l m = absurd (omega arith)
    go s zero (suc (suc e)) l m = absurd (omega arith)
    go s (suc zero) (suc (suc e)) l m = absurd (omega arith)
