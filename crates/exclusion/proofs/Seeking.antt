-- The smallest setup under an edge is sought node by node, in the terms of the code. Assumes nothing.
use Prim.Native.Nat.{ℕ, ◌-◌, ◌/◌, ◌^◌, ◌≤◌, ◌<◌}
use mathlib.Core.Path.{◌≡◌, refl, sym, ap, ◌∙◌}
use mathlib.Core.Logic.{◌≢◌}
use mathlib.Core.Bool.{Bool, true, false, not, cond, true≢false}
use mathlib.Core.List.{List}
use mathlib.Core.Option.{some}
use native.Mathlib.Nat.{le_refl, zero-mul, zero-div, lt_of_lt_of_le}
use native.Mathlib.Omega.{arith}
use lib.Dec.{eqb}
use lib.Pow.{pow_pos, pow_mono}
use borrow.Author.Tests.{eqb-true, eqb-false}
use Rattle.words.specs.Words.{word_at}
use Rattle.words.proofs.Cases.{less, same, more, tri}
use Rattle.diagram.specs.Format.{Words, height}
use Rattle.diagram.specs.Meaning.{bit, under}
use Rattle.diagram.specs.Count.{smallest}
use Rattle.diagram.proofs.Paths.{height_le_settings, under_always, under_never}
use Rattle.diagram.proofs.Select.{smallest_is}
use Rattle.diagram.proofs.Digits.{above, fits}
use Rattle.walking.specs.Inner.{Lies, Forks}
use Rattle.exclusion.specs.Inner.{Along, turned_at}
use Rattle.exclusion.proofs.Following.{goes_on}
use Rattle.exclusion.proofs.Digits.{Whole, whole_down, whole_bit, up_to_turned, turned_whole, turned_bit, turned_above}

-- the settings of x are chosen but for the last `left`, which are off, and edge e is reached: something is permitted from there on, and nothing is below x
pub record Seeks (t : List ℕ) (from e x : ℕ) : Type 0 where
  pub n : ℕ
  pub lies : Lies t n e
  pub not_never : e ≢ 1
  pub short : height (word_at t) (from / 2) ≤ 63
  pub left : ℕ
  pub few : left ≤ height (word_at t) (from / 2)
  pub below : height (word_at t) (e / 2) ≤ left
  pub fits : x < 2 ^ height (word_at t) (from / 2)
  pub whole : Whole left x
  pub along : Along (word_at t) from x left e
  pub floor : (y : ℕ) → under (word_at t) from y ≡ true → x ≤ y

-- before the first node
pub seeks_first : (t : List ℕ) (n e : ℕ) → Lies t n e → e ≢ 1 → Seeks t e e 0
seeks_first t n e L q = record {
  n = n;
  lies = L;
  not_never = q;
  short = omega (arith, height_le_settings (word_at t) n L.nodes L.reduced.ordered (e / 2) L.inside, L.holds.few_settings);
  left = height (word_at t) (e / 2);
  few = le_refl (height (word_at t) (e / 2));
  below = le_refl (height (word_at t) (e / 2));
  fits = pow_pos (height (word_at t) (e / 2));
  whole = rw (zero-div (2 ^ height (word_at t) (e / 2))) (zero-mul (2 ^ height (word_at t) (e / 2)));
  along = λ y q. refl;
  floor = λ y q. omega arith;
}

-- one node more
module _ (t : List ℕ) (from e x h high low : ℕ) (K : Seeks t from e x) (S : Forks t K.n e h high low) where
  abbrev w : Words
  w = word_at t

  falls : h ≤ K.left
  falls = omega (arith, S.height_is, K.below)

  whole : Whole h x
  whole = whole_down h K.left x falls K.whole

  goes : (y : ℕ) → y / 2 ^ K.left ≡ x / 2 ^ K.left → (b : Bool) → bit h y ≡ b → Along w from y (h - 1) (cond b high low)
  goes = goes_on S from x K.left K.along falls

  -- with its setting off
  off : Along w from x (h - 1) low
  off = goes x refl false (whole_bit h x S.tall whole)

  -- what `turned` needs
  pub turns : (0 < h) × (h ≤ 63) × (x < 2 ^ 63)
  turns = (S.tall, omega (arith, falls, K.few, K.short), lt_of_lt_of_le K.fits (pow_mono K.short))

  off_side : low ≢ 1 → Seeks t from low x
  off_side q = record {
    n = K.n;
    lies = S.lies false;
    not_never = q;
    short = K.short;
    left = h - 1;
    few = omega (arith, K.few, falls);
    below = omega (arith, S.lower false);
    fits = K.fits;
    whole = whole_down (h - 1) h x (omega arith) whole;
    along = off;
    floor = K.floor;
  }

  -- with its setting on, where nothing is permitted with it off
  on_side_lem : low ≡ 1 → Seeks t from high (turned_at h x)
  on_side_lem q = record {
    n = K.n;
    lies = S.lies true;
    not_never = λ r. S.differ (r ∙ sym q);
    short = K.short;
    left = h - 1;
    few = omega (arith, K.few, falls);
    below = omega (arith, S.lower true);
    fits = fits h (height w (from / 2)) x (turned_at h x) (omega (arith, K.few, falls)) K.fits (turned_above h S.tall x);
    whole = sym (turned_whole h S.tall x);
    along = goes (turned_at h x) (above h K.left x (turned_at h x) falls (turned_above h S.tall x)) true (turned_bit h S.tall x ∙ ap not (whole_bit h x S.tall whole));
    floor = λ y p. elim (tri (turned_at h x) y) [
      | less l ↦ omega arith
      | same r ↦ omega arith
      | more l ↦ absurd (true≢false (sym p ∙ off y (up_to_turned h x S.tall whole y (K.floor y p) l) ∙ ap (λ (d : ℕ). under w d y) q ∙ under_never w y))
    ];
  }

  -- as the code chooses
  module _ (on : Bool) (on_is : on ≡ eqb low 1) (next : ℕ) (next_is : next ≡ cond on high low) (x' : ℕ) where
    pub seeks_on : on ≡ true → x' ≡ turned_at h x → Seeks t from next x'
    seeks_on p q = rw (next_is, p, q) (on_side_lem (eqb-true low 1 (sym on_is ∙ p)))

    pub seeks_off : on ≡ false → x' ≡ x → Seeks t from next x'
    seeks_off p q = rw (next_is, p, q) (off_side (eqb-false low 1 (sym on_is ∙ p)))

-- at the sink
pub sought : (t : List ℕ) (from e x : ℕ) → Seeks t from e x → e / 2 ≡ 0 → smallest (under (word_at t) from) (2 ^ height (word_at t) (from / 2)) ≡ some x
sought t from e x K z =
    let always : e ≡ 0 = omega (arith, K.not_never) in
    smallest_is (under (word_at t) from) (2 ^ height (word_at t) (from / 2)) x (record {
      below = K.fits;
      passes = K.along x refl ∙ ap (λ (d : ℕ). under (word_at t) d x) always ∙ under_always (word_at t) x;
      least = λ y _ p. K.floor y p;
    })
