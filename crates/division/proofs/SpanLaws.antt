-- The parts share the setups out, in order and evenly. All above rests on start-zero, start-next, start-end and start-mono, and on sizes-even: nothing else is known of where parts start. Assumes nothing.
use Prim.Native.Nat.{ℕ, zero, suc, ◌+◌, ◌-◌, ◌*◌, ◌≤◌, ◌<◌}
use mathlib.Core.Path.{◌≡◌, ap}
use native.Mathlib.Omega.{arith}
use native.Mathlib.Numerals.{add-one}
use native.Mathlib.Nat.{zero-mul, zero-div, div-zero, mul-div-le, lt-mul-div-succ, mul-div_cancel_left, mul-le-mul_right, lt_of_mul-lt-mul_left}
use Rattle.division.specs.Span.{size, start}

-- rounded down: k times the start is not above j × c
start_low : (c k j : ℕ) → k * start c k j ≤ j * c
unfolding start
start_low c k j = mul-div-le (j * c) k

-- ... and k times one more is
start_high : (c k j : ℕ) → 0 < k → j * c < k * (start c k j + 1)
unfolding start
start_high c k j p = lt-mul-div-succ (j * c) p

-- the first part starts at 0
pub start_zero : (c k : ℕ) → start c k 0 ≡ 0
unfolding start
start_zero c k = simp (zero-mul, zero-div)

-- the last part ends where the setups end
pub start_end : (c k : ℕ) → 0 < k → start c k k ≡ c
unfolding start
start_end c k p = mul-div_cancel_left c p

-- of no parts, all start at 0
start_none : (c j : ℕ) → start c 0 j ≡ 0
unfolding start
start_none c j = div-zero (j * c)

-- starts ascend
pub start_mono : (c k i j : ℕ) → i ≤ j → start c k i ≤ start c k j
start_mono c zero i j l = omega (arith, start_none c i)
start_mono c (suc m) i j l =
    let k = suc m in
    let p : 0 < k = omega arith in
    let h : start c k i < start c k j + 1 = lt_of_mul-lt-mul_left k (omega (arith, start_low c k i, mul-le-mul_right c l, start_high c k j p)) in
    omega arith

-- a part starts where the one before it ends
pub start_next : (c k j : ℕ) → start c k (suc j) ≡ start c k j + size c k j
unfolding size
start_next c k j = omega (arith, ap (start c k) (add-one j), start_mono c k j (suc j) (omega arith))

-- the leftover setups are spread evenly: m parts in a row have as many setups from part i on as from part j on, but for one
pub runs_even : (c k m i j : ℕ) → start c k (i + m) - start c k i ≤ start c k (j + m) - start c k j + 1
runs_even c zero m i j = omega (arith, start_none c (i + m))
runs_even c (suc l) m i j =
    let k = suc l in
    let p : 0 < k = omega arith in
    let high-i = start_high c k i p in
    let high-j = start_high c k (j + m) p in
    let h : start c k (i + m) + start c k j < start c k i + start c k (j + m) + 2 = lt_of_mul-lt-mul_left k (omega (arith, start_low c k (i + m), start_low c k j)) in
    omega (arith, start_mono c k j (j + m) (omega arith))

-- so the sizes differ by at most one
pub sizes_even : (c k i j : ℕ) → size c k i ≤ size c k j + 1
unfolding size
sizes_even c k i j = runs_even c k 1 i j
