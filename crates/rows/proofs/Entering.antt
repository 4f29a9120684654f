-- The row of a node from those of its edges, in the terms of the code. Assumes nothing.
use Rattle.std.proofs.Common.{◌≡◌, ℕ, zero, suc, ◌+◌, ◌-◌, ◌*◌, ◌/◌, ◌%◌, ◌<◌, ◌≤◌, Bool, true, false, eqb, List, length, sym, refl, ap, ◌∙◌, subst, mod-lt, mul-le-mul_left, arith, lit<}
use Rattle.words.specs.Words.{word_at, put_word}
use Rattle.words.specs.Swap.{swap}
use Rattle.diagram.specs.Format.{Words, height}
use Rattle.diagram.specs.Meaning.{plain, under}
use Rattle.diagram.specs.Reading.{IsRecord}
use Rattle.diagram.proofs.Paths.{Lower, tall_node}
use Rattle.diagram.proofs.Inside.{high_lower, low_lower}
use Rattle.diagram.proofs.Edges.{flag_set, flag_clear}
use Rattle.diagram.proofs.Counts.{under_period, else_half, then_half}
use Rattle.rows.specs.Inner.{opposed, turned, Stands, from, row_of, Mixes, Rows, Next, Entered}
use Rattle.rows.proofs.Modular.{Same, turned_first, turned_next}
use Rattle.rows.proofs.Standing.{Mixed, halves, free_to, flagged}
use Rattle.rows.proofs.Placing.{from_fits, from_next, from_stays, loaded, store_here, store_other}

-- rows lie one behind the other
pub row_below : (m v k : ℕ) → v < k → (m + 1) * v + (m + 1) ≤ (m + 1) * k
row_below m v k l = omega (arith, mul-le-mul_left (m + 1) l)

-- a row with its signs turned fits
turned_fits : (f : ℕ) (a : ℕ → ℕ) → ((i : ℕ) → a i < 18446744073709551616) → (i : ℕ) → turned f a i < 18446744073709551616
unfolding turned opposed
turned_fits zero a l i = l i
turned_fits (suc f) a l i = mod-lt (18446744073709551616 - a i) (lit< tt)

-- an edge's row, from any height above its node's on
pub edge_stands : (t s : List ℕ) (m k : ℕ) → Rows t s m k → (e H : ℕ) → e / 2 ≤ k → height (word_at t) (e / 2) ≤ H
    → Stands (under (word_at t) e) (turned (e % 2) (row_of s m (e / 2))) m H
unfolding under
edge_stands t s m k R e H l low =
    let w = word_at t in
    let W = R.within in
    let fits = from_fits s ((m + 1) * (e / 2)) in
    free_to (under w e) (height w (e / 2)) H low (λ g x q. under_period w W.settings W.nodes W.holds.ordered e g x (omega (arith, W.inside)) q)
    (turned (e % 2) (row_of s m (e / 2))) m (turned_fits (e % 2) (row_of s m (e / 2)) fits)
    (flagged (plain w (e / 2)) (row_of s m (e / 2)) m (height w (e / 2)) fits (R.stand (e / 2) l) (e % 2))

-- node k, with its record, where the rows below it stand
module _ (t s : List ℕ) (m k h a b : ℕ) (p : 0 < k) (R : Next t s m k) (r : IsRecord (word_at t) k h a b) where
  abbrev w : Words
  w = word_at t

  high_is : Lower w k a
  high_is = high_lower t k h a b p R.within r

  low_is : Lower w k b
  low_is = low_lower t k h a b p R.within r

  -- the rows of its edges, to nodes v, lie before its own
  pub high_before : (v : ℕ) → v ≡ a / 2 → (m + 1) * v + (m + 1) ≤ (m + 1) * k
  high_before v e = row_below m v k (omega (arith, high_is.node))

  pub low_before : (v : ℕ) → v ≡ b / 2 → (m + 1) * v + (m + 1) ≤ (m + 1) * k
  low_before v e = row_below m v k (omega (arith, low_is.node))

  then_plain : a % 2 ≡ 0
  then_plain = ap (λ (e : ℕ). e % 2) r.then_is ∙ R.plain_then

  -- its row stands for it where it is made of them
  stands : (s' : List ℕ) → Mixed (row_of s' m k) (row_of s m (a / 2)) (turned (b % 2) (row_of s m (b / 2))) m → Stands (plain w k) (row_of s' m k) m (height w k)
  unfolding turned
  stands s' M =
      let W = R.within in
      let D = W.holds.ordered in
      let q : suc (height w k - 1) ≡ height w k = omega (arith, tall_node w W.settings W.nodes D k p W.inside) in
      let A : Stands (under w a) (row_of s m (a / 2)) m (height w k - 1) =
      subst (λ (f : ℕ). Stands (under w a) (turned f (row_of s m (a / 2))) m (height w k - 1)) then_plain (edge_stands t s m (k - 1) R.below a (height w k - 1) (omega (arith, high_is.node)) (omega (arith, high_is.low))) in
      let Z = edge_stands t s m (k - 1) R.below b (height w k - 1) (omega (arith, low_is.node)) (omega (arith, low_is.low)) in
      subst (Stands (plain w k) (row_of s' m k) m) q
      (halves (plain w k) (under w b) (under w a) (height w k - 1)
      (λ x l. else_half w W.settings W.nodes D k x p W.inside l ∙ ap (λ (e : ℕ). under w e x) (sym r.else_is))
      (λ x l. then_half w W.settings W.nodes D k x p W.inside l ∙ ap (λ (e : ℕ). under w e x) (sym r.then_is))
      (row_of s' m k) (row_of s m (a / 2)) (turned (b % 2) (row_of s m (b / 2))) m M A Z)

  -- r₀ is stored as the first entry, and the others are mixed behind it, of the rows of nodes u and v
  module _ (s₁ s' : List ℕ) (r₀ first u v : ℕ) (u-is : u ≡ a / 2) (v-is : v ≡ b / 2) (is : s₁ ≡ put_word s ((m + 1) * k) (swap r₀)) (r₀-fits : r₀ < 18446744073709551616)
      (first_fits : first < 18446744073709551616) (first_is : swap first ≡ word_at s ((m + 1) * v)) where
    abbrev to : ℕ
    to = (m + 1) * k

    abbrev low : ℕ
    low = (m + 1) * v

    abbrev high : ℕ
    high = (m + 1) * u

    long : 8 * to + 8 ≤ length s
    long = omega (arith, R.room)

    -- what lies before it is as it was
    kept : (q i : ℕ) → q + i < to → from s₁ q i ≡ from s q i
    kept q i l = from_stays s s₁ q i (q + i) (store_other s s₁ to r₀ long is (q + i) (λ e. omega arith)) refl

    low_first : first ≡ from s low 0
    low_first = loaded s low 0 first first_fits (first_is ∙ ap (word_at s) (omega arith))

    module _ (plus minus : ℕ) (M : Mixes s₁ s' (to + 1) high plus minus m) where
      row_first : row_of s' m k 0 ≡ r₀
      row_first = from_stays s₁ s' to 0 to (M.before to (omega arith)) (omega arith) ∙ store_here s s₁ to r₀ long is to 0 (omega arith) r₀-fits

      row_next : (i : ℕ) → i < m → Same (row_of s' m k (suc i) + from s₁ minus i) (from s high i + from s₁ plus i)
      row_next i l = rw (← (from_next s' to i), ← (kept high i (omega (arith, high_before u u-is)))) (M.made i l)

      entered : Mixed (row_of s' m k) (row_of s m (a / 2)) (turned (b % 2) (row_of s m (b / 2))) m → Entered t s s' m k
      entered X = record { before = λ q l. M.before q (omega arith) ∙ store_other s s₁ to r₀ long is q (λ e. omega arith); stands = stands s' X }

    pub entered_plain : (f : Bool) → f ≡ eqb (b % 2) 1 → f ≡ false → r₀ ≡ first → Mixes s₁ s' (to + 1) high (low + 1) low m → Entered t s s' m k
    unfolding turned
    entered_plain f f-is q e M =
        entered (low + 1) low M
        (rw (flag_clear b f f-is q, ← u-is, ← v-is) record {
          small = from_fits s' to;
          first = ap (◌% 18446744073709551616) (row_first (low + 1) low M ∙ e ∙ low_first);
          next = λ i l. rw (kept low i (omega (arith, low_before v v-is)), kept (low + 1) i (omega (arith, low_before v v-is)), from_next s low i) at (row_next (low + 1) low M i l);
        })

    pub entered_flagged : (f : Bool) → f ≡ eqb (b % 2) 1 → f ≡ true → (r₀ + first) % 18446744073709551616 ≡ 0 → Mixes s₁ s' (to + 1) high low (low + 1) m → Entered t s s' m k
    unfolding turned opposed
    entered_flagged f f-is q e M =
        entered low (low + 1) M
        (rw (flag_set b f f-is q, ← u-is, ← v-is) record {
          small = from_fits s' to;
          first = rw (row_first low (low + 1) M) (turned_first r₀ (from s low 0) (from_fits s low 0) (rw low_first at e));
          next = λ i l. turned_next _ _ _ _ (from_fits s low i) (from_fits s low (suc i)) (rw (kept low i (omega (arith, low_before v v-is)), kept (low + 1) i (omega (arith, low_before v v-is)), from_next s low i) at (row_next low (low + 1) M i l));
        })
