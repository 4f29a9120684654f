-- The nodes of one height are given the numbers of their records. Assumes nothing.
use Prim.Native.Nat.{ℕ, suc, ◌+◌, ◌-◌, ◌*◌, ◌%◌, ◌≤◌, ◌<◌}
use mathlib.Core.Path.{◌≡◌, refl, sym, ap, ◌∙◌}
use mathlib.Core.Bool.{true, false}
use native.Mathlib.Omega.{arith}
use Rattle.words.proofs.Stores.{Updated}
use Rattle.diagram.specs.Format.{Words}
use Rattle.numbering.specs.Renewal.{normal}
use Rattle.numbering.specs.Numbered.{Good, dropped, made}
use Rattle.sorting.specs.Sorting.{Strict}
use Rattle.reducing.specs.Inner.{edge_of, records_of}
use Rattle.reducing.specs.Steps.{Nodes, last_of, Findable, Countable, Counted}
use Rattle.reducing.proofs.Lists.{cursor_first, none_behind, walk_falls, cursor_next, walked}

-- a node's place stays right where the records stay, and more are added
pub good_as : {h t e x c c' : ℕ} {L L' : Words} → Good h t e x L c → c ≤ c' → ((k : ℕ) → k < c → L' (suc k) ≡ L (suc k)) → Good h t e x L' c'
good_as (dropped t x) m f = dropped t x
good_as (made k l n x e) m f = made k (omega arith) n x (f k l ∙ e)

-- or the number k + 1 of its record
pub result_made : (W : ℕ → ℕ) (P h i end t e k : ℕ) → t ≡ W (P + i) → e ≡ W (3 * P + i) → (t ≡ e → ⊥) → k < end → W k ≡ normal h t e
    → Good h (W (P + i)) (W (3 * P + i)) (suc (2 * (k + 1) + t % 2)) (records_of W) end
unfolding records_of
result_made W P h i end t e k t-is e-is n l q = rw (← t-is, ← e-is) (made k l n (omega arith) q)

module _ (D : Nodes) (W₀ : ℕ → ℕ) (P c end h first : ℕ) (R : Countable D W₀ P c end h first) where
  pub counted_first : Counted D W₀ W₀ P end h first
  counted_first = record {
    cursor = cursor_first D h first R.begins;
    before = λ j l. refl;
    behind = λ j l. refl;
    kept = λ j l q. refl;
    given = λ i l m q. absurd (none_behind D h first R.begins i l m q);
  }

  -- a turn: the node at next - 1
  module _ (W : ℕ → ℕ) (next : ℕ) (K : Counted D W₀ W P end h next) (turn : 0 < next) where
    abbrev i : ℕ
    i = next - 1

    inside : i < D.count
    inside = omega (arith, K.cursor.bound)

    pub give_inside : i < P
    give_inside = omega (arith, inside, R.few)

    then_stays : W (P + i) ≡ W₀ (P + i)
    then_stays = K.kept i inside (λ _. omega arith)

    else_stays : W (3 * P + i) ≡ W₀ (3 * P + i)
    else_stays = K.behind (3 * P + i) (omega arith)

    word_stays : (j : ℕ) → j < end → W j ≡ W₀ j
    word_stays j l = K.before j (omega (arith, R.to))

    pub give_findable : Findable W P c end h i
    unfolding Strict
    give_findable =
        let F = R.nodes i inside (K.cursor.at turn) in
        record {
          strict = λ a b l m n. omega (arith, word_stays a (omega arith), word_stays b n, F.strict a b l m n);
          small = λ b. elim b as (λ b. edge_of W P b i < 131072) [ true ↦ rw then_stays (F.small true) | false ↦ rw else_stays (F.small false) ];
          there = rw (then_stays, else_stays)
              (λ n. let a = F.there n in record { at = a.at; from = a.from; to = a.to; is = word_stays a.at a.to ∙ a.is });
        }

    -- it becomes r
    module _ (r : ℕ) (W' : ℕ → ℕ) (G : Good h (W (P + i)) (W (3 * P + i)) (suc r) (records_of W) end) (U : Updated W W' (P + i) r)
        (next' : ℕ) (next_is : next' ≡ W' (2 * P + i)) where
      links : (j : ℕ) → j < D.count → W' (2 * P + j) ≡ last_of D.height (D.height j) j
      links j l = U.other (2 * P + j) (λ e. omega (arith, give_inside)) ∙ K.behind (2 * P + j) (omega arith) ∙ R.links j l

      pub give_falls : next' < next
      give_falls = walk_falls D h next K.cursor turn W' P next' links next_is

      other : (j : ℕ) → (j ≡ i → ⊥) → W' (P + j) ≡ W (P + j)
      other j n = U.other (P + j) (λ e. n (omega arith))

      here : Good h (W₀ (P + i)) (W₀ (3 * P + i)) (suc (W' (P + i))) (records_of W₀) end
      unfolding records_of
      here = rw (← then_stays, ← else_stays, U.here) (good_as G (omega arith) (λ k l. sym (word_stays k l)))

      pub counted_next : Counted D W₀ W' P end h next'
      counted_next = record {
        cursor = cursor_next D h next K.cursor turn W' P next' links next_is;
        before = λ j l. U.other j (λ e. omega arith) ∙ K.before j l;
        behind = λ j l. U.other j (λ e. omega (arith, give_inside)) ∙ K.behind j l;
        kept = λ j l q. other j (λ e. absurd (omega (arith, give_falls, q (ap D.height e ∙ K.cursor.at turn)))) ∙ K.kept j l (λ e. omega (arith, give_falls, q e));
        given = walked D h next K.cursor turn W' P next' links next_is
            (λ j. Good h (W₀ (P + j)) (W₀ (3 * P + j)) (suc (W' (P + j))) (records_of W₀) end) here
            (λ j l m q. rw (other j (λ e. omega arith)) (K.given j l m q));
      }
