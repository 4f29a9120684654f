-- A pair is visited: it is found, or it is inserted, and then what it leads to is visited. Assumes nothing.
use Prim.Native.Nat.{ℕ, ◌+◌, ◌*◌, ◌^◌, ◌≤◌, ◌<◌}
use mathlib.Core.Path.{◌≡◌, refl, sym, ap, ◌∙◌, subst}
use mathlib.Core.Bool.{Bool, true, false, cond}
use mathlib.Core.List.{List}
use native.Mathlib.Omega.{arith}
use borrow.Author.Count.{below_more}
use Rattle.words.specs.Words.{word_at}
use Rattle.words.proofs.Cases.{less, same, more, tri}
use Rattle.words.proofs.Stores.{Updated, update, update_is}
use Rattle.diagram.specs.Format.{Words}
use Rattle.diagram.proofs.Members.{Members, members_le}
use Rattle.keys.specs.Keys.{Keys, Absent, Inserted}
use Rattle.keys.proofs.Inserting.{keys_agree}
use Rattle.pairing.specs.Pairs.{pair_height, follow}
use Rattle.pairing.specs.Inner.{PairWithin, Pass, Closed, EdgesPut, Kept, Done, Visited, Overfull}
use Rattle.pairing.proofs.Pairs.{pair_small, follow_within, follow_lower}

-- two stores are the edges of a pair
pub edges_put : (W X W' : ℕ → ℕ) (P i high low : ℕ) → i < P → Updated W X (P + i) (2 * high) → Updated X W' (3 * P + i) (2 * low) → EdgesPut W W' P i high low
edges_put W X W' P i high low l A B = record {
  then_is = B.other (P + i) (λ e. omega arith) ∙ A.here;
  else_is = B.here;
  other = λ k n m. B.other k m ∙ A.other k n;
}

-- what stays by one change and by another
kept_twice : {W X W' : ℕ → ℕ} {P i : ℕ} → Kept W X P i → Kept X W' P i → Kept W W' P i
kept_twice A B = record { pair_kept = B.pair_kept ∙ A.pair_kept; then_kept = B.then_kept ∙ A.then_kept; else_kept = B.else_kept ∙ A.else_kept }

-- a pair that is done stays so where its words and the pairs stay
done_still : (t u : List ℕ) (W W' : ℕ → ℕ) (P c c' i : ℕ) → Done t u W P c i → Kept W W' P i → ((j : ℕ) → j < c → W' j ≡ W j) → c ≤ c' → Done t u W' P c' i
done_still t u W W' P c c' i D K pairs l = record {
  inside = rw K.pair_kept D.inside;
  leads = λ on m.
      let q = D.leads on (subst (λ (x : ℕ). 0 < pair_height (word_at t) (word_at u) x) K.pair_kept m) in
      let s = q.1 in
      (q.0, omega arith, side on q.0 q.2, pairs q.0 q.1 ∙ q.3 ∙ ap (follow (word_at t) (word_at u) on) (sym K.pair_kept));
}
  where
    side : (on : Bool) (j : ℕ) → cond on (W (P + i)) (W (3 * P + i)) ≡ 2 * j → cond on (W' (P + i)) (W' (3 * P + i)) ≡ 2 * j
    side true j e = K.then_kept ∙ e
    side false j e = K.else_kept ∙ e

-- the old pairs stay when one is inserted
kept_first : (W X : ℕ → ℕ) (P count pair : ℕ) → count < P → Inserted W X P count pair → (i : ℕ) → i < count → Kept W X P i
kept_first W X P count pair room J i l = record {
  pair_kept = J.before i (omega arith) (λ e. omega arith);
  then_kept = J.before (P + i) (omega arith) (λ e. omega arith);
  else_kept = J.behind (3 * P + i) (omega arith);
}

module _ (t u : List ℕ) (W : ℕ → ℕ) (P count pair : ℕ) (K : Keys W P count) (I : PairWithin t u pair) where
  -- P pairs, and one more
  pub overfull : Absent W count pair → count ≡ P → Overfull (word_at t) (word_at u) W P count pair
  overfull absent e R C p q = omega (arith, members_le f R (2 ^ 34) (count + 1) m)
    where
      f : ℕ → ℕ
      f = update W count pair

      here : f count ≡ pair
      here = (update_is W count pair).here

      old : (i : ℕ) → i < count → f i ≡ W i
      old i l = (update_is W count pair).other i (λ e. omega arith)

      m : Members f R (2 ^ 34) (count + 1)
      m = record {
        small = below_more (λ i. f i < 2 ^ 34) count (λ i l. rw (old i l) (K.small i l)) (rw here (pair_small t u pair I));
        pass = below_more (λ i. R (f i) ≡ true) count (λ i l. ap R (old i l) ∙ q i l) (ap R here ∙ p);
        distinct = λ i j a b. below_more (λ i. f i ≡ f j → i ≡ j) count
            (λ i l. below_more (λ j. f i ≡ f j → i ≡ j) count
            (λ j m e. K.distinct i j l m (sym (old i l) ∙ e ∙ old j m))
            (λ e. absurd (absent i l (sym (old i l) ∙ e ∙ here))) j b)
            (below_more (λ j. f count ≡ f j → count ≡ j) count (λ j m e. absurd (absent j m (sym (old j m) ∙ sym e ∙ here))) (λ e. refl) j b) i a;
      }

-- a pair that was inserted, and leads to x and y
pub record Branch (t u : List ℕ) (W X : ℕ → ℕ) (P count pair h x y : ℕ) : Type 0 where
  pub within : PairWithin t u pair
  pub room : count < P
  pub inserted : Inserted W X P count pair
  pub height_is : h ≡ pair_height (word_at t) (word_at u) pair
  pub some : h ≡ 0 → ⊥
  pub high_is : x ≡ follow (word_at t) (word_at u) true pair
  pub low_is : y ≡ follow (word_at t) (word_at u) false pair

module _ (t u : List ℕ) (W X : ℕ → ℕ) (P count pair h x y : ℕ) (N : Branch t u W X P count pair h x y) where
  abbrev w : Words
  w = word_at t

  abbrev v : Words
  v = word_at u

  -- the pair has some height
  tall : 0 < pair_height w v pair
  tall = omega (arith, N.height_is, N.some)

  -- x and y lie in the tables
  pub high_within : PairWithin t u x
  high_within = rw N.high_is (follow_within t u pair N.within tall true)

  pub low_within : PairWithin t u y
  low_within = rw N.low_is (follow_within t u pair N.within tall false)

  -- ... lower than the pair
  pub high_lower : (m : ℕ) → pair_height w v pair ≡ m → pair_height w v x < m
  high_lower m e = rw (N.high_is, ← e) (follow_lower t u pair N.within tall true)

  pub low_lower : (m : ℕ) → pair_height w v pair ≡ m → pair_height w v y < m
  low_lower m e = rw (N.low_is, ← e) (follow_lower t u pair N.within tall false)

  -- a test that the pair and all found before pass: they pass it still, and so do x and y
  passes_first : (R : ℕ → Bool) → R pair ≡ true → Pass R W count → Pass R X (count + 1)
  passes_first R p q =
      below_more (λ i. R (X i) ≡ true) count (λ i l. ap R (kept_first W X P count pair N.room N.inserted i l).pair_kept ∙ q i l) (ap R N.inserted.here ∙ p)

  passes_high : (R : ℕ → Bool) → Closed w v R → R pair ≡ true → R x ≡ true
  passes_high R C p = ap R N.high_is ∙ C pair p tall true

  passes_low : (R : ℕ → Bool) → Closed w v R → R pair ≡ true → R y ≡ true
  passes_low R C p = ap R N.low_is ∙ C pair p tall false

  module _ (Y : ℕ → ℕ) (i1 c1 : ℕ) (A : Visited t u X Y P (count + 1) x i1 c1) where
    pub no_second : Overfull w v Y P c1 y → Overfull w v W P count pair
    no_second f R C p q = f R C (passes_low R C p) (λ i l. elim (tri i (count + 1)) [
      | less a ↦ ap R (A.kept i a).pair_kept ∙ passes_first R p q i a
      | same a ↦ A.passes R C (passes_high R C p) i (omega arith) l
      | more a ↦ A.passes R C (passes_high R C p) i (omega arith) l
    ])

    module _ (Z W' : ℕ → ℕ) (i2 c2 : ℕ) (B : Visited t u Y Z P c1 y i2 c2) (E : EdgesPut Z W' P count i1 i2) where
      -- both were visited, and the edges were stored: how many pairs there are, and that they stay
      many : (count < c1) × (c1 ≤ c2) × (c2 ≤ P)
      many = (omega (arith, A.up), B.up, B.keys.few)

      pairs : (i : ℕ) → i < c2 → W' i ≡ Z i
      pairs i l = E.other i (λ e. omega (arith, many.2)) (λ e. omega (arith, many.2))

      stays : (i : ℕ) → i < c2 → (i ≡ count → ⊥) → Kept Z W' P i
      stays i l n = record {
        pair_kept = pairs i l;
        then_kept = E.other (P + i) (λ e. n (omega arith)) (λ e. omega (arith, many.2));
        else_kept = E.other (3 * P + i) (λ e. omega arith) (λ e. n (omega arith));
      }

      here : W' count ≡ pair
      here = pairs count (omega (arith, many.0, many.1)) ∙ (B.kept count many.0).pair_kept ∙ (A.kept count (omega arith)).pair_kept ∙ N.inserted.here

      -- a pair that was done when x had been visited, or y
      done_first : (i : ℕ) → count < i → i < c1 → Done t u W' P c2 i
      done_first i a b = done_still t u Z W' P c2 c2 i (done_still t u Y Z P c1 c2 i (A.done i (omega arith) b) (B.kept i b) (λ j l. (B.kept j l).pair_kept) many.1)
          (stays i (omega (arith, many.1)) (λ e. omega arith)) pairs (omega arith)

      done_second : (i : ℕ) → c1 ≤ i → i < c2 → Done t u W' P c2 i
      done_second i a b = done_still t u Z W' P c2 c2 i (B.done i a b) (stays i b (λ e. omega (arith, many.0))) pairs (omega arith)

      -- ... and the pair itself
      own : Done t u W' P c2 count
      own = record { inside = rw here N.within; leads = λ on l. side on }
        where
          side : (on : Bool) → (j : ℕ) × (j < c2) × (cond on (W' (P + count)) (W' (3 * P + count)) ≡ 2 * j) × (W' j ≡ follow w v on (W' count))
          side true =
              let l = A.there in
              let q : i1 < c2 = omega (arith, many.1) in
              (i1, q, E.then_is, pairs i1 q ∙ (B.kept i1 l).pair_kept ∙ A.here ∙ N.high_is ∙ ap (follow w v true) (sym here))
          side false = (i2, B.there, E.else_is, pairs i2 B.there ∙ B.here ∙ N.low_is ∙ ap (follow w v false) (sym here))

      -- the pair itself, what came with x, and what came with y
      parts : (Q : ℕ → Type 0) → Q count → ((i : ℕ) → count < i → i < c1 → Q i) → ((i : ℕ) → c1 ≤ i → i < c2 → Q i) → (i : ℕ) → count ≤ i → i < c2 → Q i
      parts Q f g k i a b = elim (tri i count) [
        | less l ↦ absurd (omega arith)
        | same l ↦ subst Q (sym l) f
        | more l ↦ elim (tri i c1) [ less m ↦ g i l m | same m ↦ k i (omega arith) b | more m ↦ k i (omega arith) b ]
      ]

      -- all is as it was, and the new pairs are done
      pub visited : Visited t u W W' P count pair count c2
      visited = record {
        keys = keys_agree Z W' P c2 B.keys pairs (λ s l. E.other (2 * P + s) (λ e. omega arith) (λ e. omega arith));
        up = omega (arith, many.0, many.1);
        early = omega arith;
        there = omega (arith, many.0, many.1);
        here = here;
        kept = λ i l.
            let q : i < c1 = omega (arith, many.0) in
            kept_twice (kept_twice (kept_first W X P count pair N.room N.inserted i l) (A.kept i (omega arith))) (kept_twice (B.kept i q) (stays i (omega (arith, many.1)) (λ e. omega arith)));
        done = parts (Done t u W' P c2) own done_first done_second;
        passes = λ R C p. parts (λ i. R (W' i) ≡ true) (ap R here ∙ p)
            (λ i a b. ap R (pairs i (omega (arith, many.1)) ∙ (B.kept i b).pair_kept) ∙ A.passes R C (passes_high R C p) i (omega arith) b)
            (λ i a b. ap R (pairs i b) ∙ B.passes R C (passes_low R C p) i a b);
      }
