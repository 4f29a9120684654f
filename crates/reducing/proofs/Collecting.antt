-- The words of the nodes of one height are collected. Assumes nothing.
use Prim.Native.Nat.{ℕ, zero, suc, ◌+◌, ◌-◌, ◌*◌, ◌/◌, ◌≤◌, ◌<◌}
use mathlib.Core.Path.{◌≡◌, refl, sym, ap, ap₂, ◌∙◌}
use mathlib.Core.Bool.{Bool, true, false, not}
use mathlib.Core.Logic.{◌⊎◌, inl, inr}
use native.Mathlib.Omega.{arith}
use lib.Dec.{eqb, leb}
use borrow.Author.Tests.{eq-eqb, ne_eqb, eqb-true, eqb-false, le-leb, lt-leb, not-true, not-false}
use Rattle.words.proofs.Cases.{less, same, more, tri}
use Rattle.diagram.specs.Count.{indicator, count_below}
use Rattle.diagram.proofs.CountLaws.{count_le, count_mono}
use Rattle.diagram.proofs.Edges.{turn_lt}
use Rattle.numbering.specs.Numbered.{Good, dropped, made}
use Rattle.sorting.specs.Sorting.{Among}
use Rattle.reducing.specs.Levels.{through}
use Rattle.reducing.specs.Inner.{edge_of, result_of, records_of}
use Rattle.carrying.specs.Words.{sort_word}
use Rattle.reducing.specs.Steps.{Nodes, count_of, last_of, Staged, Ready, Leads, Renewed, side_of, word_of, Candidate, Collected}
use Rattle.reducing.proofs.Lists.{cursor_first, none_behind, turn_counts, walk_falls, cursor_next, counts_on, walked}

-- what an edge becomes depends on its node only
pub through_as : (r r' : ℕ → ℕ) (e : ℕ) → r' (e / 2) ≡ r (e / 2) → through r' e ≡ through r e
unfolding through
through_as r r' e q = rw q

pub through_small : (r : ℕ → ℕ) (e : ℕ) → r (e / 2) < 131072 → through r e < 131072
unfolding through
through_small r e l = turn_lt _ (r (e / 2)) 65536 l

-- the nodes up to height h are those of lower heights and those of height h
height_sum : (h a : ℕ) → 0 < h → indicator (leb a h) ≡ indicator (leb a (h - 1)) + indicator (eqb a h)
unfolding indicator
height_sum h a p = elim (tri a h) [
  | less q ↦ rw (le-leb a h (omega arith), le-leb a (h - 1) (omega arith), ne_eqb a h (λ e. omega arith))
  | same q ↦ rw (le-leb a h (omega arith), lt-leb a (h - 1) (omega arith), eq-eqb a h q)
  | more q ↦ rw (lt-leb a h q, lt-leb a (h - 1) (omega arith), ne_eqb a h (λ e. omega arith))
]

count_heights : (g : ℕ → ℕ) (h m : ℕ) → 0 < h → count_below (λ i. leb (g i) h) m ≡ count_below (λ i. leb (g i) (h - 1)) m + count_below (λ i. eqb (g i) h) m
unfolding count_below
count_heights g h zero p = refl
count_heights g h (suc m) p = omega (arith, count_heights g h m p, height_sum h (g m) p)

module _ {few : Bool} (D : Nodes) (W₀ : ℕ → ℕ) (P c h first : ℕ) (R : Ready few D W₀ P c h first) where
  abbrev S : Staged D W₀ P c (h - 1)
  S = R.staged

  -- there is room for the words of all nodes of height h
  pub ready_room : c + count_of D h D.count ≤ count_below (λ i. leb (D.height i) h) D.count
  ready_room = omega (arith, S.room, count_heights D.height h D.count R.some)

  ready_few : count_below (λ i. leb (D.height i) h) D.count ≤ P
  ready_few = omega (arith, S.few, count_le (λ i. leb (D.height i) h) D.count)

  -- nodes below height h have become edges to records up to 65,535
  pub ready_small : (i : ℕ) → i < D.count → D.height i < h → W₀ (P + i) < 131072
  ready_small i l m = elim (tri (D.height i) (h - 1)) [
    | less q ↦ S.levelled.small i l q
    | same q ↦ elim (tri 0 (D.height i)) [
      | less p ↦ go p (S.levelled.good i l p (omega arith))
      | same p ↦ omega (arith, S.levelled.sinks i l (sym p))
      | more p ↦ absurd (omega arith)
    ]
    | more q ↦ absurd (omega arith)
  ]
    where
      go : 0 < D.height i → Good (D.height i) (side_of D W₀ P true i) (side_of D W₀ P false i) (suc (W₀ (P + i))) (records_of W₀) c → W₀ (P + i) < 131072
      go p (dropped t x) =
          omega (arith, x, through_small (result_of W₀ P) (D.edge true i) (S.levelled.small (D.edge true i / 2) (S.loose.inside true i l p) (omega (arith, S.loose.lower true i l p))))
      go p (made k a n x e) = omega (arith, x, a, R.small)

  -- an edge of a node of height h leads to a lower node
  pub ready_node : (b : Bool) (i : ℕ) → i < D.count → D.height i ≤ h → 0 < D.height i → (D.edge b i / 2 < D.count) × (D.height (D.edge b i / 2) < h)
  ready_node b i l q p = (S.loose.inside b i l p, omega (arith, S.loose.lower b i l p))

  pub ready_side : (b : Bool) (i : ℕ) → i < D.count → D.height i ≤ h → 0 < D.height i → side_of D W₀ P b i < 131072
  ready_side b i l q p = let n = ready_node b i l q p in through_small (result_of W₀ P) (D.edge b i) (ready_small _ n.0 n.1)

  pub collected_first : Collected few D W₀ W₀ P c h c first
  collected_first = record {
    cursor = cursor_first D h first R.begins;
    up = omega arith;
    room = omega (arith, count_mono (λ j. eqb (D.height j) h) (cursor_first D h first R.begins).bound);
    before = λ j l. refl;
    links = λ j l. refl;
    kept = λ b j l q. refl;
    sides = λ b i l m q. absurd (none_behind D h first R.begins i l m q);
    made = λ i l m q. absurd (none_behind D h first R.begins i l m q);
    came = λ k a b. absurd (omega arith);
  }

  -- the words end in their region
  pub collected_low : (W : ℕ → ℕ) (end : ℕ) → Collected few D W₀ W P c h end 0 → end ≤ P
  collected_low W end K = omega (arith, K.room, ready_room, ready_few)

  -- a turn: the node at next - 1
  module _ (W : ℕ → ℕ) (end next : ℕ) (K : Collected few D W₀ W P c h end next) (turn : 0 < next) where
    abbrev i : ℕ
    i = next - 1

    inside : i < D.count
    inside = omega (arith, K.cursor.bound)

    pub turn_inside : i < P
    turn_inside = omega (arith, inside, S.few)

    pub turn_low : few ≡ true → i < 65536
    turn_low e = omega (arith, inside, R.count_low e)

    pub turn_room : end < P
    turn_room = omega (arith, K.room, ready_room, ready_few, turn_counts D h next K.cursor turn)

    tall : 0 < D.height i
    tall = omega (arith, K.cursor.at turn, R.some)

    -- its edges have waited
    waited : (b : Bool) → edge_of W P b i ≡ D.edge b i
    waited b = K.kept b i inside (λ _. omega arith) ∙ S.waits b i inside (omega (arith, K.cursor.at turn, R.some))

    node : (b : Bool) → (D.edge b i / 2 < D.count) × (D.height (D.edge b i / 2) < h)
    node b = ready_node b i inside (omega (arith, K.cursor.at turn)) tall

    lower : (b : Bool) → W (P + D.edge b i / 2) ≡ W₀ (P + D.edge b i / 2)
    lower b = K.kept true (D.edge b i / 2) (node b).0 (λ e. absurd (omega (arith, (node b).1)))

    pub turn_leads : Leads W P i
    turn_leads b = rw (waited b) (omega (arith, (node b).0, S.few), rw (lower b) (ready_small (D.edge b i / 2) (node b).0 (node b).1))

    -- they have become others
    module _ (W' : ℕ → ℕ) (N : Renewed few W W' P i h end) (next' : ℕ) (next_is : next' ≡ W' (2 * P + i)) where
      stays : (j : ℕ) → j < end → W' j ≡ W j
      stays j l = N.others j (λ e. omega (arith, turn_room)) (λ e. omega (arith, turn_room)) (λ e. omega arith)

      links_stay : (j : ℕ) → j < P → W' (2 * P + j) ≡ W₀ (2 * P + j)
      links_stay j l = N.others (2 * P + j) (λ e. omega (arith, turn_inside)) (λ e. omega arith) (λ e. omega (arith, turn_room)) ∙ K.links j l

      links : (j : ℕ) → j < D.count → W' (2 * P + j) ≡ last_of D.height (D.height j) j
      links j l = links_stay j (omega (arith, S.few)) ∙ S.links j l

      pub collect_falls : next' < next
      collect_falls = walk_falls D h next K.cursor turn W' P next' links next_is

      side : (b : Bool) → edge_of W' P b i ≡ side_of D W₀ P b i
      side b = N.sides b ∙ ap (through (result_of W P)) (waited b) ∙ through_as (result_of W₀ P) (result_of W P) (D.edge b i) (lower b)

      other : (b : Bool) (j : ℕ) → j < D.count → (j ≡ i → ⊥) → edge_of W' P b j ≡ edge_of W P b j
      other true j l n = N.others (P + j) (λ e. n (omega arith)) (λ e. omega (arith, S.few)) (λ e. omega (arith, turn_room))
      other false j l n = N.others (3 * P + j) (λ e. omega (arith, turn_inside)) (λ e. n (omega arith)) (λ e. omega (arith, turn_room))

      word : W' end ≡ word_of few D W₀ P h i
      word = N.made ∙ ap₂ (λ (t e : ℕ). sort_word few h t e i) (side true) (side false)

      collected_next : (end' : ℕ) → end ≤ end' → end' ≤ end + 1 → ((side_of D W₀ P true i ≡ side_of D W₀ P false i → ⊥) → Among W' c end' (word_of few D W₀ P h i))
          → ((k : ℕ) → end ≤ k → k < end' → Candidate few D W₀ P h (W' k)) → Collected few D W₀ W' P c h end' next'
      collected_next end' a b here new = record {
        cursor = cursor_next D h next K.cursor turn W' P next' links next_is;
        up = omega (arith, K.up);
        room = omega (arith, K.room, counts_on D h next K.cursor turn W' P next' links next_is);
        before = λ j l. stays j (omega (arith, K.up)) ∙ K.before j l;
        links = links_stay;
        kept = λ s j l q. other s j l (λ e. absurd (omega (arith, collect_falls, q (ap D.height e ∙ K.cursor.at turn)))) ∙ K.kept s j l (λ e. omega (arith, collect_falls, q e));
        sides = λ s. walked D h next K.cursor turn W' P next' links next_is (λ j. edge_of W' P s j ≡ side_of D W₀ P s j) (side s)
            (λ j l m q. other s j l (λ e. omega arith) ∙ K.sides s j l m q);
        made = walked D h next K.cursor turn W' P next' links next_is
            (λ j. (side_of D W₀ P true j ≡ side_of D W₀ P false j → ⊥) → Among W' c end' (word_of few D W₀ P h j)) here
            (λ j l m q n. let f = K.made j l m q n in record { at = f.at; from = f.from; to = omega (arith, f.to); is = stays f.at f.to ∙ f.is });
        came = λ k l m. elim (tri k end) [
          | less q ↦ rw (stays k q) (K.came k l q)
          | same q ↦ new k (omega arith) m
          | more q ↦ new k (omega arith) m
        ];
      }

      -- equal ones: the word does not count
      collected_same : W' (P + i) ≡ W' (3 * P + i) → Collected few D W₀ W' P c h end next'
      collected_same e = collected_next end (omega arith) (omega arith) (λ n. absurd (n (sym (side true) ∙ e ∙ side false))) (λ k l m. absurd (omega arith))

      -- different ones: it does
      collected_more : (W' (P + i) ≡ W' (3 * P + i) → ⊥) → Collected few D W₀ W' P c h (end + 1) next'
      collected_more n = collected_next (end + 1) (omega arith) (omega arith) (λ _. record { at = end; from = K.up; to = omega arith; is = word })
          (λ k l m. let e : k ≡ end = omega arith in
          rw e (record { node = i; inside = inside; level = K.cursor.at turn; apart = λ q. n (side true ∙ q ∙ sym (side false)); is = word }))

      -- by the answer r, whether they differ
      pub collected_turn : (r : Bool) (end' : ℕ) → r ≡ not (eqb (W' (P + i)) (W' (3 * P + i))) → ((r ≡ true) × (end' ≡ end + 1)) ⊎ ((r ≡ false) × (end' ≡ end)) → Collected few D W₀ W' P c h end' next'
      collected_turn r end' r-is (inl q) = rw q.1 (collected_more (eqb-false (W' (P + i)) (W' (3 * P + i)) (not-true (eqb (W' (P + i)) (W' (3 * P + i))) (sym r-is ∙ q.0))))
      collected_turn r end' r-is (inr q) = rw q.1 (collected_same (eqb-true (W' (P + i)) (W' (3 * P + i)) (not-false (eqb (W' (P + i)) (W' (3 * P + i))) (sym r-is ∙ q.0))))
