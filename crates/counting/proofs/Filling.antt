-- Filling the sheet place by place, in the terms of the loops that do it. Assumes nothing.
use Prim.Native.Nat.{ℕ, zero, suc, ◌+◌, ◌-◌, ◌*◌, ◌/◌, ◌%◌, ◌^◌, ◌≤◌, ◌<◌}
use mathlib.Core.Path.{◌≡◌, refl, sym, ap, subst, ◌∙◌}
use mathlib.Core.List.{List}
use native.Mathlib.Nat.{le_refl}
use native.Mathlib.Omega.{arith}
use native.Mathlib.Numerals.{add-one}
use lib.ListN.{length}
use Rattle.words.specs.Words.{word_at, put_word, words_over}
use Rattle.words.proofs.Laws.{no_words, put_next, over_over, words_read, length-words_over}
use Rattle.words.specs.Swap.{swap}
use Rattle.words.proofs.Stores.{put_updated}
use Rattle.words.proofs.Swaps.{swap_fits}
use Rattle.diagram.specs.Format.{Words, height, then_edge}
use Rattle.diagram.specs.Count.{place}
use Rattle.diagram.specs.Ordered.{Reduced, HasDiagram}
use Rattle.diagram.specs.Reading.{share}
use Rattle.diagram.proofs.Paths.{height_le_settings}
use Rattle.diagram.proofs.Inside.{within_low, within_below}
use Rattle.counting.specs.Inner.{stored, Filled, Next, Opens, Countable}
use Rattle.counting.proofs.Places.{place_fits}
use Rattle.counting.proofs.Shares.{filled_below, settled}

-- places 0 to N of a sheet are being filled with f 0, f 1, ..: place 0 has been
pub record Begun (f : ℕ → ℕ) (s₀ entry : List ℕ) (N : ℕ) : Type 0 where
  pub room : 8 * (N + 1) ≤ length entry
  pub one : s₀ ≡ words_over f 1 entry

pub begun : (f : ℕ → ℕ) (s₀ entry : List ℕ) (N v : ℕ) → 8 * (N + 1) ≤ length entry → s₀ ≡ put_word entry 0 v → v ≡ f 0 → Begun f s₀ entry N
begun f s₀ entry N v l e q = record {
  room = l;
  one = e ∙ ap (put_word entry 0) q ∙ ap (λ (x : List ℕ). put_word x 0 (f 0)) (no_words f entry) ∙ put_next f 0 entry (omega arith);
}

-- ... m of them so far
module _ (f : ℕ → ℕ) (s₀ entry : List ℕ) (N : ℕ) (B : Begun f s₀ entry N) where
  long₀ : length s₀ ≡ length entry
  long₀ = ap length B.one ∙ length-words_over f 1 entry (omega (arith, B.room))

  pub fill_first : s₀ ≡ words_over f 1 s₀
  fill_first = B.one ∙ sym (ap (words_over f 1) B.one ∙ over_over f f 1 1 entry (omega arith))

  module _ (s : List ℕ) (m : ℕ) (so_far : s ≡ words_over f m s₀) where
    pub fill_long : m ≤ N + 1 → length s ≡ length entry
    fill_long l = ap length so_far ∙ length-words_over f m s₀ (omega (arith, B.room, long₀)) ∙ long₀

    pub fill_next : m ≤ N → (s' : List ℕ) → s' ≡ put_word s m (f m) → s' ≡ words_over f (m + 1) s₀
    fill_next l s' q =
        q ∙ ap (λ (x : List ℕ). put_word x m (f m)) so_far ∙ put_next f m s₀ (omega (arith, B.room, long₀)) ∙ ap (λ (i : ℕ). words_over f i s₀) (sym (add-one m))

    pub fill_last : 0 < m → s ≡ words_over f m entry
    fill_last p = so_far ∙ ap (words_over f m) B.one ∙ over_over f f 1 m entry (omega arith)

-- the places past them stay
past : (f : ℕ → ℕ) (s : List ℕ) (m j : ℕ) → m ≤ j → 8 * j + 8 ≤ length s → ((k : ℕ) → k < m → f k < 2 ^ 64) → word_at (words_over f m s) j ≡ word_at s j
past f s zero j l r b = ap (λ (x : List ℕ). word_at x j) (sym (no_words f s))
past f s (suc m) j l r b =
    let o : 8 * m + 8 ≤ length (words_over f m s) = omega (arith, length-words_over f m s (omega arith)) in
    ap (λ (x : List ℕ). word_at x j) (sym (put_next f m s (omega arith)))
    ∙ (put_updated (words_over f m s) m (f m) o (b m (omega arith))).other j (λ e. omega arith)
    ∙ past f s m j (omega arith) r (λ k q. b k (omega arith))

stored_fits : (w : Words) (k : ℕ) → stored w k < 18446744073709551616
unfolding stored
stored_fits w k = swap_fits (share w k)

-- the shares stand in the places up to node k
filled_by : (t : List ℕ) (n N : ℕ) → HasDiagram t n N → (s₀ s : List ℕ) (k : ℕ) → k ≤ N → 8 * (k + 1) ≤ length s₀ → s ≡ words_over (stored (word_at t)) (k + 1) s₀ → Filled t s k
filled_by t n N H s₀ s k l r e =
    let w = word_at t in
    record {
      within = record { settings = n; nodes = N; holds = H; inside = l };
      room = omega (arith, ap length e, length-words_over (stored w) (k + 1) s₀ r);
      shares = λ j q. ap (λ (x : List ℕ). word_at x j) e ∙ words_read (stored w) (k + 1) s₀ j (omega arith) (stored_fits w j);
    }

-- ... and those below it, where it is its turn
pub fill_turn : (t : List ℕ) (n N : ℕ) → HasDiagram t n N → Reduced (word_at t) n N → (s₀ entry s : List ℕ) (k : ℕ) → Begun (stored (word_at t)) s₀ entry N
    → 0 < k → k ≤ N → s ≡ words_over (stored (word_at t)) k s₀ → Next t s k
fill_turn t n N H R s₀ entry s k B p l e =
    let w = word_at t in
    let o : suc (k - 1) ≡ k = omega arith in
    let m : k - 1 + 1 ≡ k = omega arith in
    let long = long₀ (stored w) s₀ entry N B in
    record {
      within = record { settings = n; nodes = N; holds = H; inside = l };
      plain = subst (λ (j : ℕ). then_edge w j % 2 ≡ 0) o (R.then_plain (k - 1) (omega arith));
      room = omega (arith, B.room, fill_long (stored w) s₀ entry N B s k e (omega arith));
      below = filled_by t n N H s₀ s (k - 1) (omega arith) (omega (arith, B.room)) (e ∙ ap (λ (i : ℕ). words_over (stored w) i s₀) (sym m));
    }

-- after the last one the sheet has the places of a diagram that can be counted: its root edge can be
pub root_opens : (t s s' : List ℕ) (n N e : ℕ) → Countable t s n N e → s' ≡ words_over (stored (word_at t)) (N + 1) s → Filled t s' N × Opens t s' e n
root_opens t s s' n N e C q =
    let F = filled_by t n N C.holds s s' N (le_refl N) C.room q in
    (F, record { filled = filled_below t s' N F (e / 2) C.inside; low = height_le_settings (word_at t) n N C.holds.ordered (e / 2) C.inside; few = C.holds.few_settings })

-- settling: the share loaded from place k, shifted, is the count
pub settle_next : (t s₀ entry : List ℕ) (N : ℕ) → Filled t entry N → Begun (place (word_at t)) s₀ entry N
    → (s s' : List ℕ) (k h v : ℕ) → 0 < k → k ≤ N → s ≡ words_over (place (word_at t)) k s₀ → h ≡ height (word_at t) k → v < 18446744073709551616 → swap v ≡ word_at s k
    → s' ≡ put_word s k (v / 2 ^ (63 - h)) → s' ≡ words_over (place (word_at t)) (k + 1) s₀
settle_next t s₀ entry N F B s s' k h v some l e h-is v-fits v-is q =
    let w = word_at t in
    let x : swap v ≡ word_at entry k =
    v-is ∙ ap (λ (x : List ℕ). word_at x k) (fill_last (place w) s₀ entry N B s k e some)
    ∙ past (place w) entry k k (omega arith) (omega (arith, B.room)) (λ i j. place_fits w i (within_low t i (within_below t N F.within i (omega arith)))) in
    let y : v / 2 ^ (63 - h) ≡ place w k = rw h-is (settled t entry N F k v v-fits x k refl l) in
    fill_next (place w) s₀ entry N B s k e l s' (q ∙ ap (put_word s k) y)
