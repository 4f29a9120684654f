-- A key is inserted: the set keeps its form. A blank table is the empty set. Assumes nothing.
use Prim.Native.Nat.{ℕ, ◌+◌, ◌*◌, ◌^◌, ◌≤◌, ◌<◌}
use mathlib.Core.Path.{◌≡◌, refl, sym, ap, ◌∙◌, subst}
use native.Mathlib.Omega.{arith}
use Rattle.words.proofs.Cases.{less, same, more, tri}
use Rattle.words.proofs.Stores.{Updated}
use Rattle.keys.specs.Keys.{probe, slot_word, Taken, Placed, Keys, Absent, Open, Inserted}
use Rattle.keys.proofs.Probing.{probe_below, taken_none, taken_cong, taken_more}

-- no slot is taken: the empty set
pub empty_keys : (W : ℕ → ℕ) (P : ℕ) → ((s : ℕ) → s < P → W (2 * P + s) ≡ 0) → Keys W P 0
empty_keys W P h = record {
  few = omega arith;
  small = λ i l. absurd (omega arith);
  distinct = λ i j l. absurd (omega arith);
  placed = λ i l. absurd (omega arith);
  held = λ s l. omega (arith, h s l);
  taken = taken_none (λ s. W (2 * P + s)) P h;
}

-- the set is told by its keys and slots: other words may change
pub keys_agree : (W W' : ℕ → ℕ) (P count : ℕ) → Keys W P count → ((i : ℕ) → i < count → W' i ≡ W i) → ((s : ℕ) → s < P → W' (2 * P + s) ≡ W (2 * P + s)) → Keys W' P count
unfolding slot_word
keys_agree W W' P count K low high = record {
  few = K.few;
  small = λ i l. rw (low i l) (K.small i l);
  distinct = λ i j l m e. K.distinct i j l m (sym (low i l) ∙ e ∙ low j m);
  placed = λ i l.
      let p = K.placed i l in
      record {
        distance = p.distance;
        near = p.near;
        holds = rw (low i l) (same_slot (W i) p.distance (omega (arith, K.few)) ∙ p.holds);
        path = rw (low i l) (λ c q e. p.path c q (sym (same_slot (W i) c (omega (arith, K.few))) ∙ e));
      };
  held = λ s l. rw (high s l) (K.held s l);
  taken = taken_cong (λ s. W (2 * P + s)) (λ s. W' (2 * P + s)) P high ∙ K.taken;
}
  where
    same_slot : (key d : ℕ) → 0 < P → W' (2 * P + probe P key d) ≡ W (2 * P + probe P key d)
    same_slot key d l = high (probe P key d) (probe_below P key l d)

-- an open slot is one of the P
pub open_below : (W : ℕ → ℕ) (P key slot : ℕ) → Open W P key slot → 0 < P → slot < P
open_below W P key slot O some = rw O.slot_is (probe_below P key some O.distance)

module _ (W X W' : ℕ → ℕ) (P count key slot : ℕ) (K : Keys W P count) (small : key < 2 ^ 34) (room : count < P) (new : Absent W count key) (O : Open W P key slot)
    (U : Updated W X count key) (U' : Updated X W' (2 * P + slot) (count + 1)) where
  slot_below : slot < P
  slot_below = open_below W P key slot O (omega arith)

  -- all other words stay
  other : (i : ℕ) → (i ≡ count → ⊥) → (i ≡ 2 * P + slot → ⊥) → W' i ≡ W i
  other i n m = U'.other i m ∙ U.other i n

  here : W' count ≡ key
  here = U'.other count (λ e. omega arith) ∙ U.here

  old : (i : ℕ) → i < count → W' i ≡ W i
  old i l = other i (λ e. omega arith) (λ e. omega arith)

  -- a slot that was taken stays as it was
  kept : (j : ℕ) → 2 * P ≤ j → (W j ≡ 0 → ⊥) → W' j ≡ W j
  kept j l n = other j (λ e. omega arith) (λ e. n (ap W e ∙ O.free))

  slot_high : (k d : ℕ) → 2 * P ≤ slot_word P k d
  unfolding slot_word
  slot_high k d = omega arith

  taken_still : (k d : ℕ) → Taken W P k d → Taken W' P k d
  taken_still k d t c l e = t c l (sym (kept (slot_word P k c) (slot_high k c) (t c l)) ∙ e)

  placed_old : (i : ℕ) → i < count → Placed W' P i
  placed_old i l =
      let p = K.placed i l in
      let a : W (slot_word P (W i) p.distance) ≡ 0 → ⊥ = λ e. omega (arith, p.holds) in
      record {
        distance = p.distance;
        near = p.near;
        holds = rw (old i l) (kept (slot_word P (W i) p.distance) (slot_high (W i) p.distance) a ∙ p.holds);
        path = rw (old i l) (taken_still (W i) p.distance p.path);
      }

  placed_new : Placed W' P count
  unfolding slot_word
  placed_new = record {
    distance = O.distance;
    near = O.near;
    holds = rw (here, ← O.slot_is) U'.here;
    path = rw here (taken_still key O.distance O.path);
  }

  -- what holds of the old keys and of the new one
  each : (A : ℕ → Type 0) → ((i : ℕ) → i < count → A i) → A count → (i : ℕ) → i < count + 1 → A i
  each A f g i l = elim (tri i count) [ less q ↦ f i q | same q ↦ subst A (sym q) g | more q ↦ absurd (omega arith) ]

  distinct : (i j : ℕ) → i < count + 1 → j < count + 1 → W' i ≡ W' j → i ≡ j
  distinct i j l m = each (λ i. W' i ≡ W' j → i ≡ j)
      (λ i l. each (λ j. W' i ≡ W' j → i ≡ j)
      (λ j m e. K.distinct i j l m (sym (old i l) ∙ e ∙ old j m))
      (λ e. absurd (new i l (sym (old i l) ∙ e ∙ here))) j m)
      (each (λ j. W' count ≡ W' j → count ≡ j) (λ j m e. absurd (new j m (sym (old j m) ∙ sym e ∙ here))) (λ e. refl) j m) i l

  held : (s : ℕ) → s < P → W' (2 * P + s) ≤ count + 1
  held s l = elim (tri s slot) [
    | less q ↦ rw (other (2 * P + s) (λ e. omega arith) (λ e. omega arith)) (omega (arith, K.held s l))
    | same q ↦ rw q (omega (arith, U'.here))
    | more q ↦ rw (other (2 * P + s) (λ e. omega arith) (λ e. omega arith)) (omega (arith, K.held s l))
  ]

  pub inserted : Inserted W W' P count key
  inserted = record {
    keys = record {
      few = omega arith;
      small = each (λ i. W' i < 2 ^ 34) (λ i l. rw (old i l) (K.small i l)) (rw here small);
      distinct = distinct;
      placed = each (Placed W' P) placed_old placed_new;
      held = held;
      taken = taken_more (λ s. W (2 * P + s)) (λ s. W' (2 * P + s)) P slot slot_below O.free (λ e. omega (arith, U'.here))
          (λ s l n. other (2 * P + s) (λ e. omega arith) (λ e. n (omega arith))) ∙ ap (λ (m : ℕ). m + 1) K.taken;
    };
    here = here;
    before = λ i l n. other i n (λ e. omega arith);
    behind = λ i l. other i (λ e. omega arith) (λ e. omega (arith, slot_below));
  }
