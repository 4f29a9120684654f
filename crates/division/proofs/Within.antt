-- The z setups that P permits from rank b on: how many, which, and where they lie. Assumes nothing.
use Prim.Native.Nat.{ℕ, zero, suc, ◌+◌, ◌-◌, ◌≤◌, ◌<◌, min}
use mathlib.Core.Path.{◌≡◌, refl, sym, ◌∙◌}
use mathlib.Core.Bool.{Bool, true, false, ◌&&◌, and-eq-true_iff}
use native.Mathlib.Omega.{arith}
use lib.Dec.{leb, ltb}
use borrow.Author.Tests.{ltb-true, ltb-false, leb-true, leb-false, lt-ltb, le-ltb, le-leb, lt-leb}
use Rattle.words.proofs.Cases.{less, same, more, tri}
use Rattle.diagram.specs.Count.{indicator, count_below}
use Rattle.diagram.proofs.CountLaws.{count_mono, count_mono_lt}
use Rattle.diagram.proofs.Select.{Selected}
use Rattle.division.specs.Span.{within}

module _ (P : ℕ → Bool) (b z : ℕ) where
  -- what it takes to be one of them: permitted, with a rank from b to b + z - 1
  pub record Ranked (x : ℕ) : Type 0 where
    pub passes : P x ≡ true
    pub from : b ≤ count_below P x
    pub upto : count_below P x < b + z

  -- both ways
  pub within_ranked : (x : ℕ) → within P b z x ≡ true → Ranked x
  unfolding within
  within_ranked x e =
      let a = (and-eq-true_iff (P x && leb b (count_below P x)) (ltb (count_below P x) (b + z))).0 e in
      let c = (and-eq-true_iff (P x) (leb b (count_below P x))).0 a.0 in
      record { passes = c.0; from = leb-true b (count_below P x) c.1; upto = ltb-true (count_below P x) (b + z) a.1 }

  pub ranked_within : (x : ℕ) → Ranked x → within P b z x ≡ true
  unfolding within
  ranked_within x r = rw (r.passes, le-leb b (count_below P x) r.from, lt-ltb (count_below P x) (b + z) r.upto)

  -- there is none if z is 0
  pub within_none : z ≡ 0 → (x : ℕ) → within P b z x ≡ false
  within_none e x = go (within P b z x) refl
    where
      go : (c : Bool) → within P b z x ≡ c → c ≡ false
      go true p = let r = within_ranked x p in absurd (omega arith)
      go false p = refl

  -- how many of them are below m
  pub within_count : (m : ℕ) → count_below (within P b z) m ≡ min (count_below P m - b) z
  unfolding count_below within indicator
  within_count zero = omega arith
  within_count (suc m) = go (P m) (leb b (count_below P m)) (ltb (count_below P m) (b + z)) refl refl (within_count m)
    where
      go : (p a c : Bool) → leb b (count_below P m) ≡ a → ltb (count_below P m) (b + z) ≡ c → count_below (within P b z) m ≡ min (count_below P m - b) z
          → count_below (within P b z) m + indicator (p && a && c) ≡ min (count_below P m + indicator p - b) z
      go true true true e f h = let i = leb-true b (count_below P m) e in let j = ltb-true (count_below P m) (b + z) f in omega arith
      go true true false e f h = let i = leb-true b (count_below P m) e in let j = ltb-false (count_below P m) (b + z) f in omega arith
      go true false c e f h = let i = leb-false b (count_below P m) e in omega arith
      go false a c e f h = omega arith

  -- number r of them is number b + r of all
  pub within_selected : (m r x : ℕ) → r < z → Selected P m (b + r) x → Selected (within P b z) m r x
  within_selected m r x l t =
      let k = t.rank in
      record {
        below = t.below;
        passes = ranked_within x (record { passes = t.passes; from = omega arith; upto = omega arith });
        rank = within_count x ∙ omega arith;
      }

  -- lo is the first of them, hi the last
  module _ (m lo hi : ℕ) (first : Selected P m b lo) (final : Selected P m (b + z - 1) hi) (some : 0 < z) where
    -- a rank from b on is a setup from lo on
    from_first : (x : ℕ) → P x ≡ true → leb b (count_below P x) ≡ leb lo x
    from_first x t =
        let p = first.rank in
        elim (tri x lo) [
          | less i ↦ lt-leb b (count_below P x) (omega (arith, count_mono_lt P t i)) ∙ sym (lt-leb lo x i)
          | same i ↦ later x (omega arith)
          | more i ↦ later x (omega arith)
        ]
      where
        later : (x : ℕ) → lo ≤ x → leb b (count_below P x) ≡ leb lo x
        later x i = le-leb b (count_below P x) (omega (arith, count_mono P i, first.rank)) ∙ sym (le-leb lo x i)

    -- a rank below b + z is a setup up to hi
    upto_last : (x : ℕ) → ltb (count_below P x) (b + z) ≡ leb x hi
    upto_last x =
        let q = final.rank in
        elim (tri hi x) [
          | less i ↦ le-ltb (count_below P x) (b + z) (omega (arith, count_mono_lt P final.passes i)) ∙ sym (lt-leb x hi i)
          | same i ↦ sooner x (omega arith)
          | more i ↦ sooner x (omega arith)
        ]
      where
        sooner : (x : ℕ) → x ≤ hi → ltb (count_below P x) (b + z) ≡ leb x hi
        sooner x i = lt-ltb (count_below P x) (b + z) (omega (arith, count_mono P i, final.rank)) ∙ sym (le-leb x hi i)

    -- so they are the permitted setups from lo to hi
    pub within_bounds : (x : ℕ) → within P b z x ≡ (P x && leb lo x && leb x hi)
    unfolding within
    within_bounds x = go (P x) refl
      where
        go : (t : Bool) → P x ≡ t → (t && leb b (count_below P x) && ltb (count_below P x) (b + z)) ≡ (t && leb lo x && leb x hi)
        go true e = rw (from_first x e, upto_last x)
        go false e = refl
