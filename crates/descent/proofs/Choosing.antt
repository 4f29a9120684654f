-- Unranking along edges, one setting at a time: what stands after each. Assumes nothing.
use Prim.Native.Nat.{ℕ, zero, suc, ◌+◌, ◌-◌, ◌*◌, ◌/◌, ◌^◌, ◌≤◌, ◌<◌}
use mathlib.Core.Path.{◌≡◌, refl, sym, ap, ◌∙◌}
use mathlib.Core.Bool.{Bool, true, false, cond}
use mathlib.Core.List.{List}
use mathlib.Core.Option.{some}
use native.Mathlib.Nat.{zero-mul, zero-add, le_refl, mul-le-mul_left}
use native.Mathlib.Omega.{arith}
use lib.Dec.{leb}
use lib.Pow.{pow_pos, pow-lt}
use borrow.Author.Tests.{leb-true, leb-false}
use Rattle.words.specs.Words.{word_at}
use Rattle.diagram.specs.Format.{Words}
use Rattle.diagram.specs.Meaning.{under}
use Rattle.diagram.specs.Count.{count_below, select}
use Rattle.diagram.specs.Reading.{Within, cofactor}
use Rattle.diagram.proofs.Bits.{pow_halves}
use Rattle.diagram.proofs.CountLaws.{count_cong}
use Rattle.diagram.proofs.Select.{select_of}
use Rattle.diagram.proofs.Cofactor.{cofactor_off, cofactor_on}
use Rattle.counting.specs.Inner.{Opens}
use Rattle.descent.specs.Settings.{count_beginning}
use Rattle.descent.specs.Inner.{Chosen, IsChoice}
use Rattle.descent.proofs.Beginning.{beginning_is, from_off, from_on, to_on}
use Rattle.descent.proofs.Settings.{left_first, left_inside, left_off, left_on, left_last}

-- before the first setting
pub chosen_first : (w : Words) (n root asked : ℕ) → asked < count_below (under w root) (2 ^ n) → Chosen w n root asked n root asked 0
chosen_first w n root asked l =
    let z : 0 * 2 ^ n ≡ 0 = zero-mul (2 ^ n) in
    record {
      few = le_refl n;
      same = λ y i. rw (z, zero-add) refl;
      number = left_first (under w root) n asked l;
    }

-- the setups that begin as chosen are setups of n settings, and as many as the edge permits
module _ (w : Words) (n root asked h e left x : ℕ) (C : Chosen w n root asked h e left x) where
  pub chosen_fits : (x + 1) * 2 ^ h ≤ 2 ^ n
  chosen_fits = left_inside (under w root) n asked h x left C.few C.number

  pub chosen_counts : count_beginning (under w root) n h x ≡ count_below (under w e) (2 ^ h)
  chosen_counts = beginning_is (under w root) n h x chosen_fits ∙ sym (count_cong (under w e) (λ y. under w root (x * 2 ^ h + y)) (2 ^ h) C.same)

-- one setting more
module _ (t s : List ℕ) (n root asked h e left x : ℕ) (O : Opens t s e h) (tall : 0 < h) (C : Chosen (word_at t) n root asked h e left x) where
  abbrev w : Words
  w = word_at t

  W : Within t (e / 2)
  W = O.filled.within

  abbrev P : ℕ → Bool
  P = under w root

  abbrev half : ℕ
  half = 2 ^ (h - 1)

  fits : (x * 2 + 1) * half ≤ 2 ^ n
  fits = omega (arith, to_on h x tall, chosen_fits w n root asked h e left x C)

  -- the digits chosen so far, and one more, fit 64 bits
  pub digits_fit : n ≤ 63 → x * 2 + 1 < 18446744073709551616
  digits_fit l = omega (arith, fits, mul-le-mul_left (x * 2 + 1) (pow_pos (h - 1)), pow-lt {i = n} {j = 64} (omega arith))

  -- the cofactors permit the two halves of what the edge does
  off_same : (y : ℕ) → y < half → under w (cofactor w h false e) y ≡ P (x * 2 * half + y)
  off_same y l =
      cofactor_off w W.settings W.nodes W.holds.ordered e h W.inside O.low tall y l ∙ C.same y (omega (arith, pow_halves h tall))
      ∙ ap (λ (b : ℕ). P (b + y)) (sym (from_off h x tall))

  on_same : (y : ℕ) → y < half → under w (cofactor w h true e) y ≡ P ((x * 2 + 1) * half + y)
  on_same y l =
      let past : x * 2 ^ h + (half + y) ≡ (x * 2 + 1) * half + y = omega (arith, from_on h x tall) in
      cofactor_on w W.settings W.nodes W.holds.ordered e h W.inside O.low tall y l ∙ C.same (half + y) (omega (arith, pow_halves h tall))
      ∙ ap P past

  -- `off` setups begin with the settings so far and then a 0
  module _ (off : ℕ) (off-is : off ≡ count_below (under w (cofactor w h false e)) half) where
    beginning_off : off ≡ count_beginning P n (h - 1) (x * 2)
    beginning_off =
        off-is ∙ count_cong (under w (cofactor w h false e)) (λ y. P (x * 2 * half + y)) half off_same
        ∙ sym (beginning_is P n (h - 1) (x * 2) fits)

    chosen_off : left < off → Chosen w n root asked (h - 1) (cofactor w h false e) left (x * 2)
    chosen_off l = record {
      few = omega (arith, C.few);
      same = off_same;
      number = left_off P n asked h x left C.few tall C.number (rw (← beginning_off) l);
    }

    chosen_on : off ≤ left → Chosen w n root asked (h - 1) (cofactor w h true e) (left - off) (x * 2 + 1)
    chosen_on l = record {
      few = omega (arith, C.few);
      same = on_same;
      number = rw beginning_off (left_on P n asked h x left C.few tall C.number (rw (← beginning_off) l));
    }

    -- as the choice has it
    pub chosen_next : (on : Bool) (left' x' : ℕ) → IsChoice off left x on left' x' → Chosen w n root asked (h - 1) (cofactor w h on e) left' x'
    chosen_next on left' x' q = rw (q.left_is, q.digits_is) (go on q.on_is)
      where
        go : (b : Bool) → b ≡ leb off left → Chosen w n root asked (h - 1) (cofactor w h b e) (cond b (left - off) left) (cond b (x * 2 + 1) (x * 2))
        go true p = chosen_on (leb-true off left (sym p))
        go false p = chosen_off (leb-false off left (sym p))

-- after the last setting
pub chosen_last : (w : Words) (n root asked h e left x : ℕ) → h ≤ 0 → Chosen w n root asked h e left x → select (under w root) (2 ^ n) asked ≡ some x
chosen_last w n root asked (suc h) e left x z C = absurd (omega arith)
chosen_last w n root asked zero e left x z C = select_of (under w root) (2 ^ n) asked x (left_last (under w root) n asked x left C.number)
