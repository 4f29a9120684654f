-- The setups that begin with given settings: they come one after the other, so their count is that of a stretch. Assumes nothing.
use Prim.Native.Nat.{ℕ, ◌+◌, ◌-◌, ◌*◌, ◌/◌, ◌^◌, ◌≤◌, ◌<◌}
use mathlib.Core.Path.{◌≡◌, sym, ap, ◌∙◌}
use mathlib.Core.Bool.{Bool, true, false, ◌&&◌, and-true, and-false}
use native.Mathlib.Nat.{div-eq_of_lt-le, div-mul-le_self, lt-div-mul-add, mul-le-mul_right}
use native.Mathlib.Omega.{arith}
use lib.Dec.{eqb}
use lib.Pow.{pow_pos, pow-add}
use borrow.Author.Tests.{eq-eqb, ne_eqb}
use Rattle.words.proofs.Cases.{less, same, more, tri}
use Rattle.diagram.specs.Count.{count_below}
use Rattle.diagram.proofs.Bits.{pow_halves}
use Rattle.diagram.proofs.CountLaws.{count_cong, count_none, count_add}
use Rattle.descent.specs.Settings.{count_beginning}

-- setup y is one of those that begin as it does, but for the last h settings
module _ (h y : ℕ) where
  pub own_start : y / 2 ^ h * 2 ^ h ≤ y
  own_start = div-mul-le_self y (2 ^ h)

  pub own_end : y < y / 2 ^ h * 2 ^ h + 2 ^ h
  own_end = lt-div-mul-add (pow_pos h)

  -- whether it begins with the settings x
  module _ (x : ℕ) where
    begins : x * 2 ^ h ≤ y → y < (x + 1) * 2 ^ h → eqb (y / 2 ^ h) x ≡ true
    begins l u = eq-eqb (y / 2 ^ h) x (div-eq_of_lt-le (2 ^ h) l u)

    pub begins_not_yet : y < x * 2 ^ h → eqb (y / 2 ^ h) x ≡ false
    begins_not_yet l = ne_eqb (y / 2 ^ h) x (λ e. let q : y / 2 ^ h * 2 ^ h ≡ x * 2 ^ h = rw e in omega (arith, q, own_start))

    begins_no_more : (x + 1) * 2 ^ h ≤ y → eqb (y / 2 ^ h) x ≡ false
    begins_no_more l = ne_eqb (y / 2 ^ h) x (λ e. let q : y / 2 ^ h * 2 ^ h ≡ x * 2 ^ h = rw e in omega (arith, q, own_end))

-- the setups that begin so come one after the other
module _ (P : ℕ → Bool) (n h x : ℕ) (fits : (x + 1) * 2 ^ h ≤ 2 ^ n) where
  abbrev base : ℕ
  base = x * 2 ^ h

  abbrev rest : ℕ
  rest = 2 ^ n - (x + 1) * 2 ^ h

  abbrev Q : ℕ → Bool
  Q y = P y && eqb (y / 2 ^ h) x

  pub beginning_is : count_beginning P n h x ≡ count_below (λ y. P (base + y)) (2 ^ h)
  unfolding count_beginning
  beginning_is =
      let all : 2 ^ n ≡ base + (2 ^ h + rest) = omega arith in
      let before = count_none Q base (λ y l. rw (begins_not_yet h y x l) (and-false (P y))) in
      let so = count_cong (λ y. Q (base + y)) (λ y. P (base + y)) (2 ^ h) (λ y l. rw (begins h (base + y) x (omega arith) (omega arith)) (and-true (P (base + y)))) in
      let after = count_none (λ y. Q (base + (2 ^ h + y))) rest (λ y l. rw (begins_no_more h (base + (2 ^ h + y)) x (omega arith)) (and-false (P (base + (2 ^ h + y))))) in
      ap (count_below Q) all ∙ omega (arith, count_add Q base (2 ^ h + rest), count_add (λ y. Q (base + y)) (2 ^ h) rest, before, so, after)

  pub beginning_span : count_below P base + count_beginning P n h x ≡ count_below P ((x + 1) * 2 ^ h)
  beginning_span =
      let end : base + 2 ^ h ≡ (x + 1) * 2 ^ h = omega arith in
      rw beginning_is (sym (count_add P base (2 ^ h)) ∙ ap (count_below P) end)

-- one setting more, off or on
module _ (h x : ℕ) (tall : 0 < h) where
  halves : 2 ^ h ≡ 2 ^ (h - 1) + 2 ^ (h - 1)
  halves = pow_halves h tall

  pub from_off : x * 2 * 2 ^ (h - 1) ≡ x * 2 ^ h
  from_off = rw halves (omega arith)

  pub from_on : (x * 2 + 1) * 2 ^ (h - 1) ≡ x * 2 ^ h + 2 ^ (h - 1)
  from_on = rw halves (omega arith)

  pub to_on : (x * 2 + 1 + 1) * 2 ^ (h - 1) ≡ (x + 1) * 2 ^ h
  to_on = rw halves (omega arith)

-- 2 ^ n is whole blocks of 2 ^ h
pub block_fits : (n h x : ℕ) → h ≤ n → x * 2 ^ h < 2 ^ n → (x + 1) * 2 ^ h ≤ 2 ^ n
block_fits n h x few l =
    let blocks : 2 ^ (n - h) * 2 ^ h ≡ 2 ^ n = let q : n - h + h ≡ n = omega arith in sym (pow-add 2 (n - h) h) ∙ ap (λ (m : ℕ). 2 ^ m) q in
    elim (tri x (2 ^ (n - h))) [
      | less u ↦ let v : x + 1 ≤ 2 ^ (n - h) = omega arith in rw (← blocks) (mul-le-mul_right (2 ^ h) v)
      | same e ↦ let q : x * 2 ^ h ≡ 2 ^ (n - h) * 2 ^ h = rw e in absurd (omega (arith, q, blocks))
      | more u ↦ let v : 2 ^ (n - h) ≤ x = omega arith in absurd (omega (arith, blocks, mul-le-mul_right (2 ^ h) v))
    ]
