-- Unranking, setting by setting: how the number left goes on by one setting, over any test, and that it is left by every prefix of the answer and by nothing else. Assumes nothing.
use Prim.Native.Nat.{ℕ, suc, ◌+◌, ◌-◌, ◌*◌, ◌/◌, ◌^◌, ◌≤◌, ◌<◌}
use mathlib.Core.Path.{◌≡◌, refl, ap}
use mathlib.Core.Bool.{Bool, true, false, ◌&&◌, and-false}
use native.Mathlib.Nat.{mul-le-mul_right}
use native.Mathlib.Omega.{arith}
use lib.Dec.{eqb}
use Rattle.words.proofs.Cases.{less, same, more, tri}
use Rattle.diagram.specs.Count.{indicator, count_below}
use Rattle.diagram.proofs.CountLaws.{count_none, count_mono, count_mono_lt}
use Rattle.diagram.proofs.Select.{Selected}
use Rattle.descent.specs.Settings.{count_beginning, IsLeft}
use Rattle.descent.proofs.Beginning.{own_start, own_end, begins_not_yet, beginning_span, from_off, to_on, block_fits}

-- before the first setting
pub left_first : (P : ℕ → Bool) (n asked : ℕ) → asked < count_below P (2 ^ n) → IsLeft P n asked n 0 asked
unfolding count_below
left_first P n asked l =
    let whole : (0 + 1) * 2 ^ n ≡ 2 ^ n = omega arith in
    let none : 0 * 2 ^ n ≡ 0 = omega arith in
    let span = beginning_span P n n 0 (omega arith) in
    record { less = rw none (omega arith); below = omega (arith, span, ap (count_below P) whole, ap (count_below P) none) }

-- a number is left: so some setup begins with these settings
pub left_inside : (P : ℕ → Bool) (n asked h x left : ℕ) → h ≤ n → IsLeft P n asked h x left → (x + 1) * 2 ^ h ≤ 2 ^ n
unfolding count_beginning
left_inside P n asked h x left few L =
    elim (tri (x * 2 ^ h) (2 ^ n)) [ less l ↦ block_fits n h x few l | same e ↦ absurd (none (omega arith)) | more l ↦ absurd (none (omega arith)) ]
  where
    none : 2 ^ n ≤ x * 2 ^ h → ⊥
    none l =
        let z = count_none (λ y. P y && eqb (y / 2 ^ h) x) (2 ^ n) (λ y u. rw (begins_not_yet h y x (omega arith)) (and-false (P y))) in
        omega (arith, z, L.below)

-- one setting more: compared with how many begin with the settings so far and then a 0, and lessened by them
module _ (P : ℕ → Bool) (n asked h x left : ℕ) (few : h ≤ n) (tall : 0 < h) (L : IsLeft P n asked h x left) where
  fits : (x + 1) * 2 ^ h ≤ 2 ^ n
  fits = left_inside P n asked h x left few L

  abbrev off : ℕ
  off = count_beginning P n (h - 1) (x * 2)

  abbrev half : ℕ
  half = 2 ^ (h - 1)

  off_span : count_below P (x * 2 * half) + off ≡ count_below P ((x * 2 + 1) * half)
  off_span = beginning_span P n (h - 1) (x * 2) (omega (arith, to_on h x tall, fits))

  pub left_off : left < off → IsLeft P n asked (h - 1) (x * 2) left
  left_off l = record { less = rw (from_off h x tall) L.less; below = l }

  pub left_on : off ≤ left → IsLeft P n asked (h - 1) (x * 2 + 1) (left - off)
  left_on l =
      let start = ap (count_below P) (from_off h x tall) in
      let end = ap (count_below P) (to_on h x tall) in
      let on-span = beginning_span P n (h - 1) (x * 2 + 1) (omega (arith, to_on h x tall, fits)) in
      record {
        less = omega (arith, L.less, off_span, start);
        below = omega (arith, L.below, beginning_span P n h x fits, off_span, on-span, start, end);
      }

-- after the last setting: the setup with the rank asked
pub left_last : (P : ℕ → Bool) (n asked x left : ℕ) → IsLeft P n asked 0 x left → Selected P (2 ^ n) asked x
unfolding count_below indicator
left_last P n asked x left L = go (P x) refl
  where
    fits : (x + 1) * 2 ^ 0 ≤ 2 ^ n
    fits = left_inside P n asked 0 x left (omega arith) L

    whole : count_below P (x * 2 ^ 0) ≡ count_below P x
    whole = let q : x * 2 ^ 0 ≡ x = omega arith in ap (count_below P) q

    one : count_below P ((x + 1) * 2 ^ 0) ≡ count_below P x + indicator (P x)
    one = let q : (x + 1) * 2 ^ 0 ≡ suc x = omega arith in ap (count_below P) q

    span : count_below P (x * 2 ^ 0) + count_beginning P n 0 x ≡ count_below P ((x + 1) * 2 ^ 0)
    span = beginning_span P n 0 x fits

    go : (b : Bool) → P x ≡ b → Selected P (2 ^ n) asked x
    go true p = record { below = omega (arith, fits); passes = p; rank = omega (arith, L.less, L.below, whole, one, span, ap indicator p) }
    go false p = absurd (omega (arith, L.below, whole, one, span, ap indicator p))

-- the setup of rank r, after all but its last h settings
pub selected_left : (P : ℕ → Bool) (n r x : ℕ) → Selected P (2 ^ n) r x → (h : ℕ) → h ≤ n → IsLeft P n r h (x / 2 ^ h) (r - count_below P (x / 2 ^ h * 2 ^ h))
selected_left P n r x S h few =
    let c = x / 2 ^ h in
    let next : (c + 1) * 2 ^ h ≡ c * 2 ^ h + 2 ^ h = omega arith in
    let before = count_mono P {a = c * 2 ^ h} {b = x} (own_start h x) in
    let after = count_mono_lt P {a = x} {b = (c + 1) * 2 ^ h} S.passes (omega (arith, own_end h x)) in
    let span = beginning_span P n h c (block_fits n h c few (omega (arith, own_start h x, S.below))) in
    record { less = omega (arith, before, S.rank); below = omega (arith, before, after, S.rank, span) }

-- no other settings leave a number, and these leave one only
module _ (P : ℕ → Bool) (n r h : ℕ) (few : h ≤ n) where
  not_before : (x y a b : ℕ) → IsLeft P n r h x a → IsLeft P n r h y b → x < y → ⊥
  not_before x y a b L M l =
      let u : x + 1 ≤ y = omega arith in
      omega (arith, L.less, L.below, M.less, beginning_span P n h x (left_inside P n r h x a few L), count_mono P (mul-le-mul_right (2 ^ h) u))

  pub left_once : (x y a b : ℕ) → IsLeft P n r h x a → IsLeft P n r h y b → (x ≡ y) × (a ≡ b)
  left_once x y a b L M =
      elim (tri x y) [
        | less l ↦ absurd (not_before x y a b L M l)
        | same e ↦ let q : count_below P (x * 2 ^ h) ≡ count_below P (y * 2 ^ h) = rw e in (e, omega (arith, L.less, M.less, q))
        | more l ↦ absurd (not_before y x b a M L l)
      ]
