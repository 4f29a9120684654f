-- The slots of the search for a key, and how many are taken. Assumes nothing.
use Prim.Native.Nat.{ℕ, zero, suc, ◌+◌, ◌-◌, ◌*◌, ◌%◌, ◌≤◌, ◌<◌, min}
use mathlib.Core.Path.{◌≡◌, refl, sym, ap, ◌∙◌, subst}
use mathlib.Core.Bool.{Bool, true, false, cond}
use native.Mathlib.Omega.{arith}
use native.Mathlib.Nat.{mul-lt-mul_of_pos_right, add-zero}
use native.Mathlib.Numerals.{add-one}
use lib.Dec.{eqb, ltb}
use borrow.Author.Tests.{lt-ltb, le-ltb, eq-eqb, ne_eqb}
use Rattle.words.proofs.Cases.{less, same, more, tri}
use Rattle.keys.specs.Keys.{mixed, homes, scaled, home, stride, strides, further, probe, taken_below}

-- the lesser of two numbers
pub lesser : (a b : ℕ) → min a b ≡ cond (ltb a b) a b
lesser a b = elim (tri a b) [
  | less q ↦ rw (lt-ltb a b q) (omega arith)
  | same q ↦ rw (le-ltb a b (omega arith)) (omega arith)
  | more q ↦ rw (le-ltb a b (omega arith)) (omega arith)
]

-- a number scaled to the slots is one of them
pub scaled_below : (P x : ℕ) → 0 < P → x < 4294967296 → scaled P x < P
unfolding scaled homes
scaled_below P x l m = elim (tri P 4294967296) [
  | less q ↦ let f : x * P < 4294967296 * P = mul-lt-mul_of_pos_right m l in rw (lt-ltb P 4294967296 q) (omega arith)
  | same q ↦ rw (le-ltb P 4294967296 (omega arith)) (omega arith)
  | more q ↦ rw (le-ltb P 4294967296 (omega arith)) (omega arith)
]

-- so is the first slot
home_below : (P mix : ℕ) → 0 < P → home P mix < P
unfolding home
home_below P mix l = scaled_below P _ l (omega arith)

-- a stride leads round once at most
stride_le : (P mix : ℕ) → 0 < P → stride P mix ≤ P
unfolding stride
stride_le P mix l = omega (arith, scaled_below P (mix % 4294967296) l (omega arith))

-- a slot further on, before or after the end is passed
pub further_near : (P s d : ℕ) → s + d < P → further P s d ≡ s + d
unfolding further
further_near P s d l = rw (lt-ltb (s + d) P l)

pub further_round : (P s d : ℕ) → P ≤ s + d → further P s d ≡ s + d - P
unfolding further
further_round P s d l = rw (le-ltb (s + d) P l)

pub further_none : (P s : ℕ) → s < P → further P s 0 ≡ s
further_none P s l = further_near P s 0 (omega arith) ∙ omega arith

pub further_below : (P s d : ℕ) → s < P → d ≤ P → further P s d < P
further_below P s d l m = elim (tri (s + d) P) [
  | less q ↦ rw (further_near P s d q) q
  | same q ↦ rw (further_round P s d (omega arith)) (omega arith)
  | more q ↦ rw (further_round P s d (omega arith)) (omega arith)
]

-- one by one
further_next : (P s d : ℕ) → s < P → d < P → further P (further P s d) 1 ≡ further P s (suc d)
further_next P s d l m = elim (tri (s + d + 1) P) [
  | less q ↦ rw (further_near P s d (omega arith), further_near P (s + d) 1 q, further_near P s (suc d) (omega arith)) (omega arith)
  | same q ↦ rw (further_near P s d (omega arith), further_round P (s + d) 1 (omega arith), further_round P s (suc d) (omega arith)) (omega arith)
  | more q ↦ rw (further_round P s d (omega arith), further_near P (s + d - P) 1 (omega arith), further_round P s (suc d) (omega arith)) (omega arith)
]

module _ (P key : ℕ) (some : 0 < P) where
  pub step_le : (d : ℕ) → cond (ltb d (strides P)) (stride P (mixed key)) 1 ≤ P
  step_le d = go (ltb d (strides P))
    where
      go : (b : Bool) → cond b (stride P (mixed key)) 1 ≤ P
      go true = stride_le P (mixed key) some
      go false = some

  pub probe_below : (d : ℕ) → probe P key d < P
  unfolding probe
  probe_below zero = home_below P (mixed key) some
  probe_below (suc d) = further_below P (probe P key d) (cond (ltb d (strides P)) (stride P (mixed key)) 1) (probe_below d) (step_le d)

  pub probe_after : (d s : ℕ) → s ≡ probe P key d → (t : ℕ) → t ≡ further P s (cond (ltb d (strides P)) (stride P (mixed key)) 1) → t ≡ probe P key (d + 1)
  probe_after d s e t q = q ∙ rw (e, add-one d) (unfold probe in refl)

  -- after the strides the slots are searched one by one
  probe_line : (d : ℕ) → d ≤ P → probe P key (strides P + d) ≡ further P (probe P key (strides P)) d
  probe_line zero l = ap (probe P key) (add-zero (strides P)) ∙ sym (further_none P (probe P key (strides P)) (probe_below (strides P)))
  probe_line (suc d) l =
      let e : strides P + suc d ≡ suc (strides P + d) = omega arith in
      let f : probe P key (suc (strides P + d)) ≡ further P (probe P key (strides P + d)) 1 = unfold probe in rw (le-ltb (strides P + d) (strides P) (omega arith)) in
      ap (probe P key) e ∙ f ∙ ap (λ (s : ℕ). further P s 1) (probe_line d (omega arith)) ∙ further_next P (probe P key (strides P)) d (probe_below (strides P)) l

-- every slot is searched
pub record Reach (P key t : ℕ) : Type 0 where
  pub distance : ℕ
  pub near : distance < P + strides P
  pub there : probe P key distance ≡ t

pub reach : (P key t : ℕ) → t < P → Reach P key t
reach P key t m =
    let s = probe P key (strides P) in
    let l : 0 < P = omega arith in
    let b = probe_below P key l (strides P) in
    elim (tri t s) [
      | less q ↦ record { distance = strides P + (t + P - s); near = omega arith; there = probe_line P key l (t + P - s) (omega arith) ∙ further_round P s (t + P - s) (omega arith) ∙ omega arith }
      | same q ↦ record { distance = strides P + (t - s); near = omega arith; there = probe_line P key l (t - s) (omega arith) ∙ further_near P s (t - s) (omega arith) ∙ omega arith }
      | more q ↦ record { distance = strides P + (t - s); near = omega arith; there = probe_line P key l (t - s) (omega arith) ∙ further_near P s (t - s) (omega arith) ∙ omega arith }
    ]

-- all are taken
pub taken_all : (f : ℕ → ℕ) (m : ℕ) → ((s : ℕ) → s < m → f s ≡ 0 → ⊥) → taken_below f m ≡ m
unfolding taken_below
taken_all f zero h = refl
taken_all f (suc m) h = rw (taken_all f m (λ s l. h s (omega arith)), ne_eqb (f m) 0 (h m (omega arith))) (omega arith)

-- none is
pub taken_none : (f : ℕ → ℕ) (m : ℕ) → ((s : ℕ) → s < m → f s ≡ 0) → taken_below f m ≡ 0
unfolding taken_below
taken_none f zero h = refl
taken_none f (suc m) h = rw (taken_none f m (λ s l. h s (omega arith)), eq-eqb (f m) 0 (h m (omega arith)))

pub taken_cong : (f g : ℕ → ℕ) (m : ℕ) → ((s : ℕ) → s < m → g s ≡ f s) → taken_below g m ≡ taken_below f m
unfolding taken_below
taken_cong f g zero h = refl
taken_cong f g (suc m) h = rw (taken_cong f g m (λ s l. h s (omega arith)), h m (omega arith))

-- one more is
pub taken_more : (f g : ℕ → ℕ) (m k : ℕ) → k < m → f k ≡ 0 → (g k ≡ 0 → ⊥) → ((s : ℕ) → s < m → (s ≡ k → ⊥) → g s ≡ f s) → taken_below g m ≡ taken_below f m + 1
unfolding taken_below
taken_more f g zero k l a b h = absurd (omega arith)
taken_more f g (suc m) k l a b h = elim (tri k m) [
  | less q ↦ rw (taken_more f g m k q a b (λ s i n. h s (omega arith) n), h m (omega arith) (λ e. omega arith)) (omega arith)
  | same q ↦ here (sym q)
  | more q ↦ absurd (omega arith)
]
  where
    here : m ≡ k → taken_below g m + cond (eqb (g m) 0) 0 1 ≡ taken_below f m + cond (eqb (f m) 0) 0 1 + 1
    here e =
        rw (taken_cong f g m (λ s i. h s (omega arith) (λ r. omega arith)), ne_eqb (g m) 0 (subst (λ (x : ℕ). g x ≡ 0 → ⊥) (sym e) b), eq-eqb (f m) 0 (ap f e ∙ a))
        (omega arith)
