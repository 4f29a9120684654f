-- Arithmetic modulo 2 ^ 64. Assumes nothing.
use Rattle.std.proofs.Common.{◌≡◌, ℕ, ◌+◌, ◌-◌, ◌*◌, ◌/◌, ◌%◌, ◌<◌, sym, ap, ◌∙◌, div-add-mod', arith}

-- equal modulo 2 ^ 64
abbrev pub Same : ℕ → ℕ → Type 0
Same a b = a % 18446744073709551616 ≡ b % 18446744073709551616

pub add_same : (a b c d : ℕ) → Same a c → Same b d → Same (a + b) (c + d)
add_same a b c d p q = omega arith

pub cancel_same : (a b c : ℕ) → Same (a + c) (b + c) → Same a b
cancel_same a b c p = omega arith

-- a factor may be taken modulo 2 ^ 64
mul_mod : (a b : ℕ) → Same (a * b) (a % 18446744073709551616 * b)
mul_mod a b =
    let e : a * b ≡ (a / 18446744073709551616 * 18446744073709551616 + a % 18446744073709551616) * b = ap (λ (x : ℕ). x * b) (sym (div-add-mod' a 18446744073709551616)) in
    omega arith

pub mul_same : (a b c : ℕ) → Same a b → Same (a * c) (b * c)
mul_same a b c p = mul_mod a c ∙ ap (λ (r : ℕ). r * c % 18446744073709551616) p ∙ sym (mul_mod b c)

-- twice a number below 2 ^ 63, halved
pub half_same : (d c : ℕ) → d < 18446744073709551616 → c < 9223372036854775808 → Same d (c + c) → d / 2 ≡ c
half_same d c k l p = omega arith

-- a number with its sign turned
pub sign_same : (z : ℕ) → z < 18446744073709551616 → Same ((18446744073709551616 - z) % 18446744073709551616 + z) 0
sign_same z l = omega arith

-- ... is the one that adds up to none
pub turned_first : (v z : ℕ) → z < 18446744073709551616 → Same (v + z) 0 → Same v ((18446744073709551616 - z) % 18446744073709551616)
turned_first v z l p = cancel_same v _ z (p ∙ sym (sign_same z l))

pub turned_next : (r a y z : ℕ) → y < 18446744073709551616 → z < 18446744073709551616 → Same (r + z) (a + y)
    → Same (r + (18446744073709551616 - y) % 18446744073709551616) (a + (18446744073709551616 - z) % 18446744073709551616)
turned_next r a y z k l p =
    let y' = (18446744073709551616 - y) % 18446744073709551616 in
    let z' = (18446744073709551616 - z) % 18446744073709551616 in
    let e : r + y' + (y + z) ≡ r + z + (y' + y) = omega arith in
    let f : a + z' + (y + z) ≡ a + y + (z' + z) = omega arith in
    cancel_same (r + y') (a + z') (y + z)
    (ap (◌% 18446744073709551616) e ∙ add_same (r + z) (y' + y) (a + y) (z' + z) p (sign_same y k ∙ sym (sign_same z l)) ∙ ap (◌% 18446744073709551616) (sym f))
