-- Counting by the row of an edge's node, in the terms of the code. Assumes nothing.
use Rattle.std.proofs.Common.{◌≡◌, ℕ, ◌+◌, ◌-◌, ◌*◌, ◌/◌, ◌%◌, ◌<◌, ◌≤◌, Bool, true, false, eqb, List, length, refl, le_refl, mod-lt, arith, lit<}
use Rattle.words.specs.Words.{word_at}
use Rattle.diagram.specs.Meaning.{under}
use Rattle.diagram.proofs.Edges.{flag_set, flag_clear}
use Rattle.pascal.specs.Triangle.{binomial}
use Rattle.rows.specs.Inner.{expand, opposed, turned, from, row_of, Opens, CountsUnder}
use Rattle.rows.proofs.Modular.{Same}
use Rattle.rows.proofs.Standing.{row_counts, opposed_sum}
use Rattle.rows.proofs.Placing.{from_fits}
use Rattle.rows.proofs.Entering.{edge_stands}

-- the row of the edge's node, v, lies in the sheet
pub row_room : (t s : List ℕ) (e n m v : ℕ) → v ≡ e / 2 → Opens t s e n m → 8 * ((m + 1) * v + m + 1) ≤ length s
row_room t s e n m v v-is O = rw v-is (omega (arith, O.rows.room))

-- a sum and a difference modulo 2 ^ 64
more_same : (d all sum x : ℕ) → d ≡ (all + sum) % 18446744073709551616 → sum ≡ x % 18446744073709551616 → Same d (all + x)
more_same d all sum x p q = omega arith

less_same : (d all sum x y : ℕ) → (d + sum) % 18446744073709551616 ≡ all → sum ≡ x % 18446744073709551616 → Same (y + x) 0 → Same d (all + y)
less_same d all sum x y p q r = omega arith

module _ (s : List ℕ) (e n m v : ℕ) (v-is : v ≡ e / 2) (sum all : ℕ) (sum_is_lem : sum ≡ expand (from s ((m + 1) * v)) n m % 18446744073709551616) (all_is : all ≡ binomial n m)
    (f : Bool) (f-is : f ≡ eqb (e % 2) 1) where
  -- by the row as the flag turns it
  counted : (d : ℕ) → d < 18446744073709551616 → Same d (all + expand (turned (e % 2) (from s ((m + 1) * v))) n m) → CountsUnder s e n m (d / 2)
  counted d fits d-is t O =
      row_counts (under (word_at t) e) (turned (e % 2) (row_of s m (e / 2))) m n O.few (edge_stands t s m (e / 2) O.rows e n (le_refl (e / 2)) O.low) d fits
      (rw (← v-is, ← all_is) d-is)

  pub counts_plain : f ≡ false → CountsUnder s e n m ((all + sum) % 18446744073709551616 / 2)
  unfolding turned
  counts_plain q = counted _ (mod-lt (all + sum) (lit< tt)) (rw (flag_clear e f f-is q) (more_same _ all sum _ refl sum_is_lem))

  pub counts_flagged : f ≡ true → all < 18446744073709551616 → CountsUnder s e n m ((all + (18446744073709551616 - sum)) % 18446744073709551616 / 2)
  unfolding turned
  counts_flagged q fits =
      let at = (m + 1) * v in
      let back : ((all + (18446744073709551616 - sum)) % 18446744073709551616 + sum) % 18446744073709551616 ≡ all = omega arith in
      counted _ (mod-lt (all + (18446744073709551616 - sum)) (lit< tt)) (rw (flag_set e f f-is q) (less_same _ all sum (expand (from s at) n m) (expand (opposed (from s at)) n m) back sum_is_lem (opposed_sum (from s at) (from_fits s at) n m)))
