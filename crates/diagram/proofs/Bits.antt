-- Laws of a number's bits. Assumes nothing.
use Prim.Native.Nat.{ℕ, suc, ◌+◌, ◌-◌, ◌*◌, ◌/◌, ◌%◌, ◌^◌, ◌≤◌, ◌<◌}
use mathlib.Core.Path.{◌≡◌, refl, sym, ap, subst, ◌∙◌}
use mathlib.Core.Bool.{Bool, true, false}
use native.Mathlib.Nat.{mod-mod, mod-lt, mod-eq_of_lt, div-eq_of_lt, add_comm, add-div_right, add-mod_right, two-pow-succ, one-mul}
use native.Mathlib.Omega.{arith}
use lib.Dec.{eqb}
use mir.Val.{bool_byte}
use lib.Pow.{pow_pos, pow-lt, field, mod-mod-pow, ones_split, high, ones_lt}
use Rattle.diagram.specs.Meaning.{bit}
use Rattle.diagram.specs.Count.{indicator}

-- 2 ^ g as a shift makes it
pub one_shl : (g : ℕ) → g ≤ 63 → 1 * 2 ^ g % 18446744073709551616 ≡ 2 ^ g
one_shl g l = rw one-mul (mod-eq_of_lt (pow-lt {i = g} {j = 64} (omega arith)))

pub shl_pos : (g : ℕ) → g ≤ 63 → 0 < 1 * 2 ^ g % 18446744073709551616
shl_pos g l = rw (one_shl g l) (pow_pos g)

-- a test as the number 1 or 0
pub bool_byte_lem : (b : Bool) → bool_byte b ≡ indicator b
unfolding indicator
bool_byte_lem true = refl
bool_byte_lem false = refl

-- the bit of weight 2 ^ m, m < H, is one of the low H bits
digit_mod : (m H x : ℕ) → m < H → x % 2 ^ H / 2 ^ m % 2 ≡ x / 2 ^ m % 2
digit_mod m H x l =
    let e : (H - suc m) + 1 + m ≡ H = omega arith in
    subst (λ (J : ℕ). x % 2 ^ J / 2 ^ m % 2 ≡ x / 2 ^ m % 2) e
    (rw (field x ((H - suc m) + 1) m) (mod-mod-pow (x / 2 ^ m) (H - suc m) 1))

pub bit_mod : (h H x : ℕ) → 0 < h → h ≤ H → bit h (x % 2 ^ H) ≡ bit h x
unfolding bit
bit_mod h H x p l = ap (λ d. eqb d 1) (digit_mod (h - 1) H x (omega arith))

-- x with the bit of weight 2 ^ (h - 1) set, or clear, and no bit above it
unfoldable pub with_bit : Bool → ℕ → ℕ → ℕ
with_bit true h x = x % 2 ^ (h - 1) + 2 ^ (h - 1)
with_bit false h x = x % 2 ^ (h - 1)

pub bit_with : (b : Bool) (h x : ℕ) → bit h (with_bit b h x) ≡ b
unfolding bit with_bit
bit_with true h x = rw (add-div_right (x % 2 ^ (h - 1)) (pow_pos (h - 1)), div-eq_of_lt (mod-lt x (pow_pos (h - 1))))
bit_with false h x = rw (div-eq_of_lt (mod-lt x (pow_pos (h - 1))))

pub with_mod : (b : Bool) (h x : ℕ) → with_bit b h x % 2 ^ (h - 1) ≡ x % 2 ^ (h - 1)
unfolding with_bit
with_mod true h x = rw (add-mod_right, mod-mod)
with_mod false h x = rw mod-mod

-- ... of a number with no other bit than those below
pub with_off : (h x : ℕ) → x < 2 ^ (h - 1) → with_bit false h x ≡ x
unfolding with_bit
with_off h x l = mod-eq_of_lt l

pub with_on : (h x : ℕ) → x < 2 ^ (h - 1) → with_bit true h x ≡ 2 ^ (h - 1) + x
unfolding with_bit
with_on h x l = ap (λ (y : ℕ). y + 2 ^ (h - 1)) (mod-eq_of_lt l) ∙ add_comm x (2 ^ (h - 1))

-- the numbers of h bits, by their first one
pub pow_halves : (h : ℕ) → 0 < h → 2 ^ h ≡ 2 ^ (h - 1) + 2 ^ (h - 1)
pow_halves h p = let e : suc (h - 1) ≡ h = omega arith in ap (λ (g : ℕ). 2 ^ g) (sym e) ∙ two-pow-succ (h - 1)

-- every bit of 2 ^ n - 1 is set
pub bit_ones : (h n : ℕ) → 0 < h → h ≤ n → bit h (2 ^ n - 1) ≡ true
unfolding bit
bit_ones h n p l =
    let e : suc (n - h) + (h - 1) ≡ n = omega arith in
    subst (λ (J : ℕ). eqb ((2 ^ J - 1) / 2 ^ (h - 1) % 2) 1 ≡ true) e (ap (λ d. eqb d 1) (digit (h - 1) (n - h)))
  where
    digit : (m j : ℕ) → (2 ^ (suc j + m) - 1) / 2 ^ m % 2 ≡ 1
    digit m j = rw (ones_split (suc j) m, high (2 ^ suc j - 1) m (ones_lt m)) (omega (arith, pow_pos j))
