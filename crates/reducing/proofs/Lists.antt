-- The lists of the nodes of one height: how they are made, and walked from the last node to the first. Assumes nothing.
use Prim.Native.Nat.{ℕ, zero, suc, ◌+◌, ◌-◌, ◌*◌, ◌≤◌, ◌<◌}
use mathlib.Core.Path.{◌≡◌, refl, sym, ap, ◌∙◌, subst}
use mathlib.Core.Bool.{Bool, true, false, cond}
use mathlib.Core.List.{List}
use native.Mathlib.Omega.{arith}
use native.Mathlib.Numerals.{add-one}
use lib.Dec.{eqb}
use lib.ListN.{length, get_or, set, replicate, length-set, length-replicate, get_or-replicate}
use lib.Seq.{get_or-set_same, get_or-set_other}
use borrow.Author.Count.{below_more}
use borrow.Author.Tests.{eq-eqb, ne_eqb, eqb-true, eqb-false}
use Rattle.words.proofs.Cases.{less, same, more, tri}
use Rattle.words.proofs.Stores.{Updated}
use Rattle.diagram.proofs.CountLaws.{count_mono, count_mono_lt}
use Rattle.reducing.specs.Inner.{height_of}
use Rattle.reducing.specs.Steps.{Nodes, count_of, last_of, Linked, Cursor}

-- m is 1 + the last node below i of height h, or 0
record IsLast (g : ℕ → ℕ) (h i m : ℕ) : Type 0 where
  bound : m ≤ i
  here : 0 < m → g (m - 1) ≡ h
  none : (j : ℕ) → m ≤ j → j < i → g j ≡ h → ⊥

last_is : (g : ℕ → ℕ) (h i : ℕ) → IsLast g h i (last_of g h i)
unfolding last_of
last_is g h zero = record { bound = omega arith; here = λ l. absurd (omega arith); none = λ j a b. absurd (omega arith) }
last_is g h (suc i) = go (eqb (g i) h) refl (last_is g h i)
  where
    go : (b : Bool) → eqb (g i) h ≡ b → IsLast g h i (last_of g h i) → IsLast g h (suc i) (cond b (suc i) (last_of g h i))
    go true e l = record {
      bound = omega arith;
      here = λ _. let j : suc i - 1 ≡ i = omega arith in ap g j ∙ eqb-true (g i) h e;
      none = λ j a b. absurd (omega arith);
    }
    go false e l =
        record {
          bound = omega (arith, l.bound);
          here = l.here;
          none = λ j a b q. elim (tri j i) [
            | less r ↦ l.none j a r q
            | same r ↦ eqb-false (g i) h e (ap g (sym r) ∙ q)
            | more r ↦ absurd (omega arith)
          ];
        }

-- one node more
last_same : (g : ℕ → ℕ) (h i : ℕ) → g i ≡ h → last_of g h (i + 1) ≡ i + 1
unfolding last_of
last_same g h i e = rw (add-one i, eq-eqb (g i) h e)

last_other : (g : ℕ → ℕ) (h i : ℕ) → (g i ≡ h → ⊥) → last_of g h (i + 1) ≡ last_of g h i
unfolding last_of
last_other g h i n = rw (add-one i, ne_eqb (g i) h n)

-- no node is in a list yet
pub linked_none : (g W : ℕ → ℕ) (heads : List ℕ) (P : ℕ) → heads ≡ replicate 64 0 → Linked g W W heads P 0
unfolding last_of
linked_none g W heads P e = record {
  heads_long = rw e (length-replicate {A = ℕ} 64 0);
  begins = λ h l. rw e (get_or-replicate {A = ℕ} 64 h 0 0 (omega (arith, length-replicate {A = ℕ} 64 0)));
  links = λ j l. absurd (omega arith);
  others = λ j l. refl;
}

-- a turn: node i, of height h
module _ (W X : ℕ → ℕ) (heads : List ℕ) (P i : ℕ) (L : Linked (height_of W P) W X heads P i) (h : ℕ) (h-is : h ≡ X (2 * P + i)) where
  abbrev g : ℕ → ℕ
  g = height_of W P

  pub turn_height : h ≡ g i
  turn_height = h-is ∙ L.others (2 * P + i) (λ _. omega arith)

  module _ (low : h ≤ 63) where
    -- the head of its list is a node before it
    pub head_low : get_or heads h 0 ≤ i
    head_low = omega (arith, L.begins h low, (last_is g h i).bound)

    -- it is put at the head
    pub linked_next : (W' : ℕ → ℕ) (heads' : List ℕ) → Updated X W' (2 * P + i) (get_or heads h 0) → heads' ≡ set heads h (i + 1) → Linked g W W' heads' P (i + 1)
    linked_next W' heads' U e = record {
      heads_long = ap length e ∙ length-set heads h (i + 1) ∙ L.heads_long;
      begins = λ k l. elim (tri k h) [ less q ↦ other k l (λ p. omega arith) | same q ↦ subst Begins (sym q) this | more q ↦ other k l (λ p. omega arith) ];
      links = below_more (λ j. W' (2 * P + j) ≡ last_of g (g j) j) i (λ j l. U.other (2 * P + j) (λ p. omega arith) ∙ L.links j l)
          (U.here ∙ L.begins h low ∙ ap (λ (k : ℕ). last_of g k i) turn_height);
      others = λ j l. U.other j (λ p. omega (arith, l (omega arith))) ∙ L.others j (λ a. omega (arith, l a));
    }
      where
        Begins : ℕ → Type 0
        Begins k = get_or heads' k 0 ≡ last_of g k (i + 1)

        other : (k : ℕ) → k ≤ 63 → (k ≡ h → ⊥) → get_or heads' k 0 ≡ last_of g k (i + 1)
        other k l n = ap (λ (a : List ℕ). get_or a k 0) e ∙ get_or-set_other heads h k (i + 1) 0 n ∙ L.begins k l ∙ sym (last_other g k i (λ p. n (sym p ∙ sym turn_height)))

        this : Begins h
        this = ap (λ (a : List ℕ). get_or a h 0) e ∙ get_or-set_same heads h (i + 1) 0 (omega (arith, L.heads_long)) ∙ sym (last_same g h i (sym turn_height))

-- the walk begins at the last node of height h: there is none behind it
module _ (D : Nodes) (h first : ℕ) (first_is : first ≡ last_of D.height h D.count) where
  pub cursor_first : Cursor D h first
  cursor_first = let l = last_is D.height h D.count in rw first_is (record { bound = l.bound; at = l.here })

  pub none_behind : (i : ℕ) → i < D.count → first ≤ i → D.height i ≡ h → ⊥
  none_behind i l m = (last_is D.height h D.count).none i (omega (arith, first_is)) l

-- a turn of the walk: the node at next - 1 leads to the one before it
module _ (D : Nodes) (h next : ℕ) (K : Cursor D h next) (turn : 0 < next) where
  -- it counts
  pub turn_counts : count_of D h (next - 1) < count_of D h next
  turn_counts = count_mono_lt (λ j. eqb (D.height j) h) (eq-eqb (D.height (next - 1)) h (K.at turn)) (omega arith)

  module _ (W : ℕ → ℕ) (P next' : ℕ) (links : (i : ℕ) → i < D.count → W (2 * P + i) ≡ last_of D.height (D.height i) i) (next_is : next' ≡ W (2 * P + (next - 1))) where
    last : IsLast D.height h (next - 1) next'
    last =
        let e : next' ≡ last_of D.height h (next - 1) =
        next_is ∙ links (next - 1) (omega (arith, K.bound)) ∙ ap (λ (k : ℕ). last_of D.height k (next - 1)) (K.at turn) in
        rw e (last_is D.height h (next - 1))

    pub walk_falls : next' < next
    walk_falls = omega (arith, last.bound)

    pub cursor_next : Cursor D h next'
    cursor_next = record { bound = omega (arith, last.bound, K.bound); at = last.here }

    pub counts_on : count_of D h next' < count_of D h next
    counts_on = omega (arith, turn_counts, count_mono (λ j. eqb (D.height j) h) last.bound)

    -- what holds of it and of those behind it
    pub walked : (A : ℕ → Type 0) → A (next - 1) → ((i : ℕ) → i < D.count → next ≤ i → D.height i ≡ h → A i) → (i : ℕ) → i < D.count → next' ≤ i → D.height i ≡ h → A i
    walked A a f i l m q = elim (tri i (next - 1)) [
      | less r ↦ absurd (last.none i m r q)
      | same r ↦ subst A (sym r) a
      | more r ↦ f i l (omega arith) q
    ]
