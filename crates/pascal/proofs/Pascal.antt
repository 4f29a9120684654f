-- Binomial coefficients, and Pascal's rule: a table that obeys it holds them, and the triangle as it is computed does. Assumes nothing.
use Prim.Native.Nat.{ℕ, zero, suc, ◌+◌, ◌*◌, ◌/◌, ◌^◌, ◌≤◌, ◌<◌}
use mathlib.Core.Path.{◌≡◌, refl, sym, ap, ◌∙◌}
use mathlib.Core.List.{List, [], ◌∷◌, ◌++◌}
use native.Mathlib.Nat.{le_refl, lt_of_le_of_lt, two-pow-succ}
use native.Mathlib.Omega.{arith}
use lib.Pow.{pow-lt}
use lib.ListN.{length, get_or, length-append, get_or-append}
use lib.Seq.{get_or-append-add}
use Rattle.words.proofs.Cases.{less, same, more, tri}
use Rattle.pascal.specs.Triangle.{entry, PascalsRule, binomial}

-- 1 at the ends, and nothing past them
pub binomial_zero : (g : ℕ) → binomial g 0 ≡ 1
unfolding binomial
binomial_zero zero = refl
binomial_zero (suc g) = refl

pub binomial_past : (g i : ℕ) → g < i → binomial g i ≡ 0
unfolding binomial
binomial_past zero zero l = absurd (omega arith)
binomial_past zero (suc i) l = refl
binomial_past (suc g) zero l = absurd (omega arith)
binomial_past (suc g) (suc i) l = omega (arith, binomial_past g i (omega arith), binomial_past g (suc i) (omega arith))

pub binomial_last : (g : ℕ) → binomial g g ≡ 1
unfolding binomial
binomial_last zero = refl
binomial_last (suc g) = omega (arith, binomial_last g, binomial_past g (suc g) (le_refl (suc g)))

-- each entry is the sum of the two above it
pub binomial_sum : (g i : ℕ) → binomial (suc g) (suc i) ≡ binomial g i + binomial g (suc i)
unfolding binomial
binomial_sum g i = refl

-- no entry of a row is more than half of what the row adds up to, but for row 0
binomial_half : (g i : ℕ) → binomial (suc g) i ≤ 2 ^ g
unfolding binomial
binomial_half zero zero = omega arith
binomial_half zero (suc zero) = omega arith
binomial_half zero (suc (suc i)) = omega arith
binomial_half (suc g) zero = omega (arith, two-pow-succ g, binomial_half g zero)
binomial_half (suc g) (suc i) = omega (arith, two-pow-succ g, binomial_half g i, binomial_half g (suc i))

-- so an entry of rows 0 to 63 is below 2 ^ 63
pub binomial_fits : (g i : ℕ) → g ≤ 63 → binomial g i < 2 ^ 63
unfolding binomial
binomial_fits zero zero l = omega arith
binomial_fits zero (suc i) l = omega arith
binomial_fits (suc g) i l = lt_of_le_of_lt (binomial_half g i) (pow-lt {i = g} {j = 63} (omega arith))

-- a table that obeys the rule holds the binomial coefficients
pub rule_entry : (t : List ℕ) (G : ℕ) → PascalsRule t G → (g i : ℕ) → g < G → i ≤ g → entry t g i ≡ binomial g i
rule_entry t G R g zero l q = R.first g l ∙ sym (binomial_zero g)
rule_entry t G R zero (suc i) l q = absurd (omega arith)
rule_entry t G R (suc g) (suc i) l q = elim (tri i g) [
  | less m ↦ R.between g i l m ∙ omega (arith, rule_entry t G R g i (omega arith) (omega arith), rule_entry t G R g (suc i) (omega arith) m, binomial_sum g i)
  | same m ↦ rw m (R.last (suc g) l ∙ sym (binomial_last (suc g)))
  | more m ↦ absurd (omega arith)
]

-- the triangle as it is computed: the sums of neighbours in the row that is a and then l, with 0 behind it
unfoldable pub sums : ℕ → List ℕ → List ℕ
sums a [] = a ∷ []
sums a (b ∷ l) = (a + b) ∷ sums b l

-- ... row g, from the one above it with 0 before it
unfoldable pub row : ℕ → List ℕ
row zero = 1 ∷ []
row (suc g) = sums 0 (row g)

-- ... the rows below g, one after the other
unfoldable pub triangle : ℕ → List ℕ
triangle zero = []
triangle (suc g) = triangle g ++ row g

-- the sums of neighbours, one by one
sums_first : (a : ℕ) (l : List ℕ) → get_or (sums a l) 0 0 ≡ a + get_or l 0 0
unfolding sums
sums_first a [] = omega arith
sums_first a (b ∷ l) = refl

sums_at : (a : ℕ) (l : List ℕ) (i : ℕ) → get_or (sums a l) (suc i) 0 ≡ get_or l i 0 + get_or l (suc i) 0
unfolding sums
sums_at a [] i = refl
sums_at a (b ∷ l) zero = sums_first b l
sums_at a (b ∷ l) (suc i) = sums_at b l i

length-sums : (a : ℕ) (l : List ℕ) → length (sums a l) ≡ suc (length l)
unfolding sums
length-sums a [] = refl
length-sums a (b ∷ l) = ap suc (length-sums b l)

length-row : (g : ℕ) → length (row g) ≡ suc g
unfolding row
length-row zero = refl
length-row (suc g) = length-sums 0 (row g) ∙ ap suc (length-row g)

-- row g holds the binomial coefficients of g
row_at : (g i : ℕ) → get_or (row g) i 0 ≡ binomial g i
unfolding row binomial
row_at zero zero = refl
row_at zero (suc i) = refl
row_at (suc g) zero = sums_first 0 (row g) ∙ omega (arith, row_at g zero, binomial_zero g)
row_at (suc g) (suc i) = sums_at 0 (row g) i ∙ omega (arith, row_at g i, row_at g (suc i))

-- where row g begins
length-triangle : (g : ℕ) → length (triangle (suc g)) ≡ length (triangle g) + suc g
unfolding triangle
length-triangle g = length-append (triangle g) (row g) ∙ ap (length (triangle g) +◌) (length-row g)

begins : (g : ℕ) → 2 * length (triangle g) ≡ g * (g + 1)
unfolding triangle
begins zero = refl
begins (suc g) = omega (arith, length-triangle g, begins g)

-- ... and that it lies within the rows below G
within : (g G i : ℕ) → g < G → i ≤ g → length (triangle g) + i < length (triangle G)
within g zero i l m = absurd (omega arith)
within g (suc G) i l m = elim (tri g G) [
  | less q ↦ omega (arith, length-triangle G, within g G i q m)
  | same q ↦ rw q (omega (arith, length-triangle G))
  | more q ↦ absurd (omega arith)
]

-- row g among the rows below G
among : (g G i : ℕ) → g < G → i ≤ g → get_or (triangle G) (length (triangle g) + i) 0 ≡ get_or (row g) i 0
unfolding triangle
among g zero i l m = absurd (omega arith)
among g (suc G) i l m = elim (tri g G) [
  | less q ↦ get_or-append (triangle G) (row G) 0 (length (triangle g) + i) (within g G i q m) ∙ among g G i q m
  | same q ↦ rw q (get_or-append-add (triangle G) (row G) i 0)
  | more q ↦ absurd (omega arith)
]

-- the place of an entry
place_is : (g i : ℕ) → g * (g + 1) / 2 + i ≡ length (triangle g) + i
place_is g i = omega (arith, begins g)

pub place_inside : (g i : ℕ) → g ≤ 63 → i ≤ g → g * (g + 1) / 2 + i < 2080
place_inside g i few l = omega (arith, place_is g i, within g 64 i (omega arith) l, begins 64)

-- the triangle obeys the rule
holds : (G g i : ℕ) → g < G → i ≤ g → entry (triangle G) g i ≡ binomial g i
holds G g i l m = ap (λ (at : ℕ). get_or (triangle G) at 0) (place_is g i) ∙ among g G i l m ∙ row_at g i

pub table_obeys : (t : List ℕ) (G : ℕ) → t ≡ triangle G → PascalsRule t G
table_obeys t G e = rw e record {
  entries = omega (arith, begins G);
  first = λ g l. holds G g 0 l (omega arith) ∙ binomial_zero g;
  last = λ g l. holds G g g l (le_refl g) ∙ binomial_last g;
  between = λ g i l m. holds G (suc g) (suc i) l (omega arith) ∙ binomial_sum g i ∙ omega (arith, holds G g i (omega arith) (omega arith), holds G g (suc i) (omega arith) m);
}
