-- Counting setups by how many settings are on. Assumes nothing.
use Prim.Native.Nat.{ℕ, zero, suc, ◌+◌, ◌-◌, ◌%◌, ◌^◌, ◌≤◌, ◌<◌}
use mathlib.Core.Path.{◌≡◌, refl, sym, ap, ap₂, ◌∙◌}
use mathlib.Core.Bool.{Bool, true, false, not, ◌&&◌}
use native.Mathlib.Nat.{two-pow-succ, add-mod_left}
use native.Mathlib.Omega.{arith}
use lib.Dec.{eqb, eqb-zero-suc, eqb-suc-zero, eqb-suc-suc}
use borrow.Author.Tests.{eq-eqb, ne_eqb}
use Rattle.words.proofs.Cases.{less, same, more, tri, and_false}
use Rattle.diagram.specs.Meaning.{bit}
use Rattle.diagram.specs.Count.{indicator, count_below}
use Rattle.diagram.proofs.CountLaws.{indicator_le, count_cong, count_none, count_add}
use Rattle.diagram.proofs.Bits.{bit_mod, bit_with, with_off, with_on}
use Rattle.pascal.specs.Triangle.{binomial}
use Rattle.pascal.specs.Ones.{ones, count_on, sum}
use Rattle.pascal.proofs.Pascal.{binomial_zero, binomial_past}

-- at most all settings are on
ones_le : (h x : ℕ) → ones h x ≤ h
unfolding ones
ones_le zero x = omega arith
ones_le (suc h) x = omega (arith, ones_le h x, indicator_le (bit (suc h) x))

-- settings above the last h do not count
ones_mod : (h H x : ℕ) → h ≤ H → ones h (x % 2 ^ H) ≡ ones h x
unfolding ones
ones_mod zero H x l = refl
ones_mod (suc h) H x l = ap₂ ◌+◌ (ones_mod h H x (omega arith)) (ap indicator (bit_mod (suc h) H x (omega arith) l))

-- with the first of suc h settings off, and on
ones_off : (h x : ℕ) → x < 2 ^ h → ones (suc h) x ≡ ones h x
unfolding ones indicator
ones_off h x l =
    let d : suc h - 1 ≡ h = omega arith in
    let e : bit (suc h) x ≡ false = ap (bit (suc h)) (sym (with_off (suc h) x (rw d l))) ∙ bit_with false (suc h) x in
    rw e (omega arith)

ones_on : (h x : ℕ) → x < 2 ^ h → ones (suc h) (2 ^ h + x) ≡ suc (ones h x)
unfolding ones indicator
ones_on h x l =
    let d : suc h - 1 ≡ h = omega arith in
    let e : bit (suc h) (2 ^ h + x) ≡ true = ap (bit (suc h)) (sym (rw d at (with_on (suc h) x (rw d l)))) ∙ bit_with true (suc h) x in
    let o : ones h (2 ^ h + x) ≡ ones h x = sym (ones_mod h h (2 ^ h + x) (omega arith)) ∙ ap (ones h) (add-mod_left (2 ^ h) x) ∙ ones_mod h h x (omega arith) in
    rw (e, o) (omega arith)

-- tests that agree have the same counts
pub on_cong : (P Q : ℕ → Bool) (h m : ℕ) → ((x : ℕ) → x < 2 ^ h → P x ≡ Q x) → count_on P h m ≡ count_on Q h m
unfolding count_on
on_cong P Q h m f = count_cong _ _ (2 ^ h) (λ x l. ap (◌&& eqb (ones h x) m) (f x l))

-- by the first of suc h settings: off, or on with one fewer below it
on_halves : (P : ℕ → Bool) (h m : ℕ) → count_on P (suc h) m ≡ count_below (λ x. P x && eqb (ones h x) m) (2 ^ h) + count_below (λ x. P (2 ^ h + x) && eqb (suc (ones h x)) m) (2 ^ h)
unfolding count_on
on_halves P h m =
    ap (count_below (λ x. P x && eqb (ones (suc h) x) m)) (two-pow-succ h)
    ∙ count_add (λ x. P x && eqb (ones (suc h) x) m) (2 ^ h) (2 ^ h)
    ∙ ap₂ ◌+◌ (count_cong _ _ (2 ^ h) (λ x l. ap (λ (o : ℕ). P x && eqb o m) (ones_off h x l))) (count_cong _ _ (2 ^ h) (λ x l. ap (λ (o : ℕ). P (2 ^ h + x) && eqb o m) (ones_on h x l)))

pub on_zero : (P : ℕ → Bool) (h : ℕ) → count_on P (suc h) 0 ≡ count_on P h 0
unfolding count_on
on_zero P h = on_halves P h 0 ∙ omega (arith, count_none (λ x. P (2 ^ h + x) && eqb (suc (ones h x)) 0) (2 ^ h) (λ x l. and_false (P (2 ^ h + x)) _ (λ _. eqb-suc-zero (ones h x))))

pub on_suc : (P : ℕ → Bool) (h m : ℕ) → count_on P (suc h) (suc m) ≡ count_on P h (suc m) + count_on (λ x. P (2 ^ h + x)) h m
unfolding count_on
on_suc P h m = on_halves P h (suc m) ∙ ap (count_on P h (suc m) +◌) (count_cong _ _ (2 ^ h) (λ x l. ap (P (2 ^ h + x) &&◌) (eqb-suc-suc (ones h x) m)))

-- the setups that pass and those that do not share the numbers out
on_not : (P : ℕ → Bool) (h m : ℕ) → count_on P h m + count_on (λ x. not (P x)) h m ≡ count_on (λ _. true) h m
unfolding count_on count_below indicator
on_not P h m = go (2 ^ h)
  where
    at : (a b : Bool) → indicator (a && b) + indicator (not a && b) ≡ indicator (true && b)
    at true b = omega arith
    at false b = omega arith

    go : (y : ℕ) → count_below (λ x. P x && eqb (ones h x) m) y + count_below (λ x. not (P x) && eqb (ones h x) m) y ≡ count_below (λ x. true && eqb (ones h x) m) y
    go zero = refl
    go (suc y) = omega (arith, go y, at (P y) (eqb (ones h y) m))

-- the entry is how many of the 2 ^ g setups of g settings have i on
pub on_all : (g i : ℕ) → count_on (λ _. true) g i ≡ binomial g i
unfolding binomial count_on count_below indicator ones
on_all zero zero = refl
on_all zero (suc i) = rw (eqb-zero-suc i)
on_all (suc g) zero = on_zero (λ _. true) g ∙ on_all g zero ∙ binomial_zero g
on_all (suc g) (suc i) = on_suc (λ _. true) g i ∙ omega (arith, on_all g i, on_all g (suc i))

-- ... so that is what the two counts add up to
pub on_both : (P : ℕ → Bool) (h m : ℕ) → count_on P h m + count_on (λ x. not (P x)) h m ≡ binomial h m
on_both P h m = on_not P h m ∙ on_all h m

-- more settings than there are: none
pub on_past : (P : ℕ → Bool) (n m : ℕ) → n < m → count_on P n m ≡ 0
on_past P n m l = omega (arith, on_both P n m, binomial_past n m l)

-- sums of sums
sum_add : (f g : ℕ → ℕ) (m : ℕ) → sum (λ i. f i + g i) m ≡ sum f m + sum g m
unfolding sum
sum_add f g zero = refl
sum_add f g (suc m) = omega (arith, sum_add f g m)

none : (b : Bool) → indicator (b && false) ≡ 0
unfolding indicator
none b = ap indicator (and_false b false (λ _. refl))

-- among the numbers below m one is o, if o is below m
before_it : (b : Bool) (o m : ℕ) → m ≤ o → sum (λ i. indicator (b && eqb o i)) m ≡ 0
unfolding sum indicator
before_it b o zero l = refl
before_it b o (suc m) l = rw (ne_eqb o m (λ e. omega arith)) (omega (arith, before_it b o m (omega arith), none b))

once : (b : Bool) (o m : ℕ) → o < m → sum (λ i. indicator (b && eqb o i)) m ≡ indicator b
unfolding sum indicator
once b o zero l = absurd (omega arith)
once b o (suc m) l = elim (tri o m) [
  | less q ↦ rw (ne_eqb o m (λ e. omega arith)) (omega (arith, once b o m q, none b))
  | same q ↦ rw (eq-eqb o m q) (omega (arith, before_it b o m (omega arith), all b))
  | more q ↦ absurd (omega arith)
]
  where
    all : (b : Bool) → indicator (b && true) ≡ indicator b
    all true = refl
    all false = refl

-- the counts over all m from 0 to n add up to the count of all
pub on_sum : (P : ℕ → Bool) (n : ℕ) → sum (λ m. count_on P n m) (suc n) ≡ count_below P (2 ^ n)
unfolding count_on count_below sum
on_sum P n = go (2 ^ n)
  where
    zeros : (k : ℕ) → sum (λ m. 0) k ≡ 0
    zeros zero = refl
    zeros (suc k) = omega (arith, zeros k)

    go : (y : ℕ) → sum (λ m. count_below (λ x. P x && eqb (ones n x) m) y) (suc n) ≡ count_below P y
    go zero = zeros (suc n)
    go (suc y) = sum_add (λ m. count_below (λ x. P x && eqb (ones n x) m) y) (λ m. indicator (P y && eqb (ones n y) m)) (suc n) ∙ ap₂ ◌+◌ (go y) (once (P y) (ones n y) (suc n) (omega (arith, ones_le n y)))
