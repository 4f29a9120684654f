-- The search for a key: what it has shown when it ends. Assumes nothing.
use Prim.Native.Nat.{ℕ, ◌+◌, ◌-◌, ◌*◌, ◌≤◌, ◌<◌}
use mathlib.Core.Path.{◌≡◌, sym, ap, ◌∙◌, subst}
use mathlib.Core.Bool.{cond}
use native.Mathlib.Omega.{arith}
use lib.Dec.{ltb}
use borrow.Author.Count.{below_none, below_more}
use Rattle.words.proofs.Cases.{less, same, more, tri}
use Rattle.keys.specs.Keys.{mixed, home, stride, strides, further, probe, slot_word, Taken, Keys, Absent, Open}
use Rattle.keys.proofs.Probing.{step_le, probe_below, probe_after, reach, taken_all}

-- a slot that is taken, by another key
abbrev pub Other : (ℕ → ℕ) → ℕ → ℕ → ℕ → Type 0
Other W P key c = (W (slot_word P key c) ≡ 0 → ⊥) × (W (W (slot_word P key c) - 1) ≡ key → ⊥)

-- the first d slots of its search are such
abbrev pub Passed : (ℕ → ℕ) → ℕ → ℕ → ℕ → Type 0
Passed W P key d = (c : ℕ) → c < d → Other W P key c

-- what the search knows before it looks into slot s
pub record Probe (W : ℕ → ℕ) (P key d s : ℕ) : Type 0 where
  pub bound : d ≤ P + strides P
  pub slot_is : s ≡ probe P key d
  pub passed : Passed W P key d

module _ (W : ℕ → ℕ) (P count key : ℕ) (K : Keys W P count) (some : 0 < P) where
  -- the first slot, and the stride
  pub probe_first : (m s : ℕ) → m ≡ mixed key → s ≡ home P m → Probe W P key 0 s
  unfolding probe
  probe_first m s e q = record {
    bound = omega arith;
    slot_is = q ∙ rw e;
    passed = below_none (Other W P key);
  }

  pub step_fits : (m b g d k : ℕ) → m ≡ mixed key → b ≡ stride P m → g ≡ strides P → k ≡ cond (ltb d g) b 1 → k ≤ P
  step_fits m b g d k e h f q = rw (q, h, e, f) (step_le P key some d)

  module _ (d s : ℕ) (B : Probe W P key d s) (turn : d < P + strides P) where
    pub slot_below : s < P
    slot_below = rw B.slot_is (probe_below P key some d)

    at_slot : W (2 * P + s) ≡ W (slot_word P key d)
    unfolding slot_word
    at_slot = rw B.slot_is

    -- what the slot holds
    module _ (held : ℕ) (held-is : held ≡ W (2 * P + s)) where
      pub held_le : held ≤ count
      held_le = rw held-is (K.held s slot_below)

      -- nothing: the key is not in the set
      pub probe_free : held ≡ 0 → Absent W count key × (count < P → Open W P key s)
      probe_free none = (
        λ i l q.
            let p = K.placed i l in
            let holds : W (slot_word P key p.distance) ≡ i + 1 = subst (λ (k : ℕ). W (slot_word P k p.distance) ≡ i + 1) q p.holds in
            let before : Taken W P key p.distance = subst (λ (k : ℕ). Taken W P k p.distance) q p.path in
            elim (tri p.distance d) [
              | less m ↦ let j : i + 1 - 1 ≡ i = omega arith in (B.passed p.distance m).1 (ap (λ (x : ℕ). W (x - 1)) holds ∙ ap W j ∙ q)
              | same m ↦ let z : W (slot_word P key p.distance) ≡ 0 = ap (λ (x : ℕ). W (slot_word P key x)) m ∙ sym at_slot ∙ sym held-is ∙ none in omega arith
              | more m ↦ before d m (sym at_slot ∙ sym held-is ∙ none)
            ],
        λ _. record { distance = d; near = turn; slot_is = B.slot_is; free = sym held-is ∙ none; path = λ c l. (B.passed c l).0 },
      )

      -- the index of a key
      module _ (n : held ≡ 0 → ⊥) (k : ℕ) (k-is : k ≡ W (held - 1)) where
        -- ... of this one
        pub probe_here : k ≡ key → (held - 1 < count) × (W (held - 1) ≡ key)
        probe_here e = let l = held_le in (omega (arith, n), sym k-is ∙ e)

        -- ... of another
        pub probe_next : (k ≡ key → ⊥) → (x b g : ℕ) → x ≡ mixed key → b ≡ stride P x → g ≡ strides P → (j : ℕ) → j ≡ cond (ltb d g) b 1 → (t : ℕ) → t ≡ further P s j → Probe W P key (d + 1) t
        probe_next m x b g x-is b-is g-is j j-is t e = record {
          bound = omega arith;
          slot_is = probe_after P key some d s B.slot_is t (e ∙ rw (j-is, b-is, x-is, g-is));
          passed = below_more (Other W P key) d B.passed (rw (← at_slot, ← held-is) (n, λ q. m (k-is ∙ q)));
        }

  -- all slots were passed: the key is not in the set, and there is no room
  module _ (d s : ℕ) (B : Probe W P key d s) (all : d ≡ P + strides P) where
    full : count ≡ P
    unfolding slot_word
    full = sym K.taken ∙ taken_all (λ t. W (2 * P + t)) P one
      where
        one : (t : ℕ) → t < P → W (2 * P + t) ≡ 0 → ⊥
        one t l e =
            let r = reach P key t l in
            (B.passed r.distance (omega (arith, r.near))).0 (rw r.there e)

    pub probe_round : Absent W count key × (count < P → Open W P key s)
    probe_round = (
      λ i l q.
          let p = K.placed i l in
          let holds : W (slot_word P key p.distance) ≡ i + 1 = subst (λ (k : ℕ). W (slot_word P k p.distance) ≡ i + 1) q p.holds in
          let j : i + 1 - 1 ≡ i = omega arith in
          (B.passed p.distance (omega (arith, p.near))).1 (ap (λ (x : ℕ). W (x - 1)) holds ∙ ap W j ∙ q),
      λ l. absurd (omega (arith, full)),
    )
