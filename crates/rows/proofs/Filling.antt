-- Rows one after the other, in the terms of the loop that makes them. Assumes nothing.
use Rattle.std.proofs.Common.{◌≡◌, ℕ, suc, ◌+◌, ◌-◌, ◌*◌, ◌/◌, ◌%◌, ◌<◌, ◌≤◌, List, length, sym, refl, ap, ◌∙◌, subst, mul-le-mul_left, arith, lit<}
use Rattle.words.specs.Words.{word_at, put_word, words_over}
use Rattle.words.specs.Swap.{swap}
use Rattle.words.proofs.Cases.{less, same, more, tri}
use Rattle.words.proofs.Laws.{words_read, length-words_over}
use Rattle.diagram.specs.Format.{height, then_edge}
use Rattle.diagram.specs.Meaning.{plain, holds}
use Rattle.diagram.specs.Ordered.{HasDiagram}
use Rattle.diagram.proofs.Paths.{height_le_settings}
use Rattle.rows.specs.Inner.{from, row_of, Stands, Rows, Next, Entered, Fillable, Opens}
use Rattle.rows.proofs.Standing.{stands_cong, sink}
use Rattle.rows.proofs.Placing.{from_stays, store_here, store_other, store_long}
use Rattle.rows.proofs.Entering.{row_below}

module _ (t s : List ℕ) (n N m : ℕ) (F : Fillable t s n N m) where
  -- there is room for the rows of the first nodes
  pub room_for : (k : ℕ) → k ≤ N → 8 * ((m + 1) * (k + 1)) ≤ length s
  room_for k l = let q : k + 1 ≤ N + 1 = omega arith in omega (arith, F.room, mul-le-mul_left (m + 1) q)

  -- the sink's row: a 1 over zeros
  pub sink_row : (s₁ s₂ : List ℕ) → s₁ ≡ words_over (λ _. 0) (m + 1) s → s₂ ≡ put_word s₁ 0 (swap 1) → Rows t s₂ m 0
  unfolding plain holds height from swap
  sink_row s₁ s₂ e₁ e₂ =
      let w = word_at t in
      let o : (m + 1) * 0 ≡ 0 = omega arith in
      let long₁ : length s₁ ≡ length s = ap length e₁ ∙ length-words_over (λ _. 0) (m + 1) s (omega (arith, room_for 0 (omega arith))) in
      let long : 8 * 0 + 8 ≤ length s₁ = omega (arith, room_for 0 (omega arith)) in
      let none : (i : ℕ) → i < m → word_at s₂ (suc i) ≡ 0 =
      λ i l. store_other s₁ s₂ 0 1 long e₂ (suc i) (λ e. omega arith) ∙ ap (λ (x : List ℕ). word_at x (suc i)) e₁ ∙ words_read (λ _. 0) (m + 1) s (suc i) (omega arith) (lit< tt) in
      let row : Stands (plain w 0) (row_of s₂ m 0) m 0 =
      sink (row_of s₂ m 0) m (store_here s₁ s₂ 0 1 long e₂ ((m + 1) * 0) 0 (omega arith) (lit< tt))
      (λ i l. let q : (m + 1) * 0 + suc i ≡ suc i = omega arith in ap (λ (j : ℕ). swap (word_at s₂ j)) q ∙ ap swap (none i l)) (plain w 0) (λ x. refl) in
      record {
        within = record { settings = n; nodes = N; holds = F.holds; inside = omega arith };
        few = F.few;
        room = omega (arith, room_for 0 (omega arith), store_long s₁ s₂ 0 1 long e₂);
        stand = λ v l. let z : 0 ≡ v = omega arith in subst (λ (j : ℕ). Stands (plain w j) (row_of s₂ m j) m (height w j)) z row;
      }

  -- node k is the next: the rows below it stand, in a sheet as long
  pub next_row : (s₁ : List ℕ) (k : ℕ) → 0 < k → k ≤ N → length s₁ ≡ length s → Rows t s₁ m (k - 1) → Next t s₁ m k
  next_row s₁ k p l e R =
      let o : suc (k - 1) ≡ k = omega arith in
      record {
        within = record { settings = n; nodes = N; holds = F.holds; inside = l };
        plain_then = subst (λ (j : ℕ). then_edge (word_at t) j % 2 ≡ 0) o (F.reduced.then_plain (k - 1) (omega arith));
        room = omega (arith, room_for k l);
        below = R;
      }

-- a row more
pub row_entered : (t s s' : List ℕ) (m k : ℕ) → Rows t s m k → Next t s m (k + 1) → length s' ≡ length s → Entered t s s' m (k + 1) → Rows t s' m (k + 1)
row_entered t s s' m k R X e E =
    let w = word_at t in
    record {
      within = X.within;
      few = R.few;
      room = omega (arith, X.room);
      stand = λ v l. elim (tri v (k + 1)) [
        | less q ↦ stands_cong (plain w v) (row_of s m v) (row_of s' m v) m (height w v)
            (λ i j. from_stays s s' ((m + 1) * v) i ((m + 1) * v + i) (E.before ((m + 1) * v + i) (omega (arith, row_below m v (k + 1) q))) refl) (R.stand v (omega arith))
        | same q ↦ subst (λ (j : ℕ). Stands (plain w j) (row_of s' m j) m (height w j)) (sym q) E.stands
        | more q ↦ absurd (omega arith)
      ];
    }

-- after the last one the root edge can be counted
pub root_opens : (t s : List ℕ) (n N e m : ℕ) → HasDiagram t n N → e / 2 ≤ N → m ≤ n → Rows t s m N → Opens t s e n m
root_opens t s n N e m H l some R =
    let q : e / 2 + 1 ≤ N + 1 = omega arith in
    record {
      rows = record {
        within = record { settings = n; nodes = N; holds = H; inside = l };
        few = R.few;
        room = omega (arith, R.room, mul-le-mul_left (m + 1) q);
        stand = λ v p. R.stand v (omega arith);
      };
      low = height_le_settings (word_at t) n N H.ordered (e / 2) l;
      few = H.few_settings;
      some = some;
    }
