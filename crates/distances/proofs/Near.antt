-- The nearest number that passes a test, by its settings one after the other. Assumes nothing.
use Prim.Native.Nat.{ℕ, zero, suc, ◌+◌, ◌-◌, ◌/◌, ◌^◌, ◌≤◌, ◌<◌}
use mathlib.Core.Path.{◌≡◌, refl, sym, ap, subst, ◌∙◌}
use mathlib.Core.Logic.{◌⊎◌, inl, inr}
use mathlib.Core.Bool.{Bool, true, false, not, xor, true≢false, not-not}
use native.Mathlib.Omega.{arith}
use Rattle.words.proofs.Cases.{less, same, more, tri}
use Rattle.diagram.specs.Meaning.{bit}
use Rattle.diagram.specs.Count.{indicator}
use Rattle.diagram.proofs.Digits.{above}
use Rattle.distances.specs.Distance.{distance}
use Rattle.distances.specs.Inner.{set_at, joined, LooksAt, Apart, Reached, Nearest, Chosen}
use Rattle.distances.proofs.Settings.{set_ends, set_bit, set_begins, begins_set, set_same, set_own, off_before, ends_less, joined_begins, joined_ends}
use Rattle.distances.proofs.Distances.{kept, dist_step, dist_mono, dist_self, dist_ends, dist_begins, dist_zero, dist_same}

-- what passes is nearest to itself
pub own_nearest : (P : ℕ → Bool) (h x : ℕ) → P x ≡ true → Nearest P h x x
own_nearest P h x p = record {
  begins = refl;
  passes = p;
  nearest = λ z q r. omega (arith, dist_self h x);
  least = λ z q r e. omega (arith, dist_same h x z q (e ∙ dist_self h x));
}

-- the nearest is no farther than what is reached
pub nearest_le : (P : ℕ → Bool) (h x y d : ℕ) → LooksAt P h → Nearest P h x y → Reached P h x d → distance h x y ≤ d
nearest_le P h x y d looks S (z, p, q) =
    let v = joined h x z in
    let ends = joined_ends h x z in
    omega (arith, S.nearest v (joined_begins h x z) (looks v z ends ∙ p), dist_ends h x x v z refl ends)

-- the setting of height h, by whether it is on: what it costs to have it so
abbrev pub cost : ℕ → ℕ → Bool → ℕ
cost h x b = indicator (xor (bit h x) b)

pub dist_at : (h x z : ℕ) (b : Bool) → 0 < h → bit h z ≡ b → distance h x z ≡ distance (h - 1) x z + cost h x b
dist_at h x z b some p = dist_step h x z some ∙ ap (λ (c : Bool). distance (h - 1) x z + cost h x c) p

pub chosen_le : (b : Bool) (c d : ℕ) → Chosen b c d → c ≤ d
chosen_le true c d l = omega arith
chosen_le false c d l = l

chosen_lt : (b : Bool) (c d : ℕ) → Chosen b c d → b ≡ true → c < d
chosen_lt true c d l q = l
chosen_lt false c d l q = absurd (true≢false (sym q))

pub chosen_mono : (b : Bool) (a c d : ℕ) → a ≤ c → Chosen b c d → Chosen b a d
chosen_mono true a c d l q = omega arith
chosen_mono false a c d l q = omega arith

either : (a b : Bool) → (a ≡ b) ⊎ (a ≡ not b)
either true true = inl refl
either true false = inr refl
either false true = inr refl
either false false = inl refl

-- a test P by the setting of height h: with it as b, Q decides and y is nearest; otherwise all that passes is d settings off or more, and b is chosen before that
module _ (P : ℕ → Bool) (h x : ℕ) (some : 0 < h) (b : Bool) (Q : ℕ → Bool) (own : (z : ℕ) → bit h z ≡ b → P z ≡ Q z) (y : ℕ) (S : Nearest Q (h - 1) (set_at b h x) y)
    (d : ℕ) (other : (z : ℕ) → bit h z ≡ not b → P z ≡ true → d ≤ distance (h - 1) x z) (chosen : Chosen b (distance (h - 1) x y + cost h x b) (d + cost h x (not b))) where
  as_set : (z : ℕ) → distance (h - 1) (set_at b h x) z ≡ distance (h - 1) x z
  as_set z = dist_ends (h - 1) (set_at b h x) x z z (set_ends b h x some) refl

  y_bit : bit h y ≡ b
  y_bit = set_same b h x some y S.begins

  begins : y / 2 ^ h ≡ x / 2 ^ h
  begins = above (h - 1) h (set_at b h x) y (omega arith) S.begins ∙ set_begins b h x some

  y_dist : distance h x y ≡ distance (h - 1) x y + cost h x b
  y_dist = dist_at h x y b some y_bit

  -- on the same side
  near_same : (z : ℕ) → z / 2 ^ h ≡ x / 2 ^ h → P z ≡ true → bit h z ≡ b → distance h x y ≤ distance h x z
  near_same z q p r = omega (arith, y_dist, dist_at h x z b some r, as_set y, as_set z, S.nearest z (begins_set b h x some z q r) (sym (own z r) ∙ p))

  least_same : (z : ℕ) → z / 2 ^ h ≡ x / 2 ^ h → P z ≡ true → bit h z ≡ b → distance h x z ≡ distance h x y → y ≤ z
  least_same z q p r e = S.least z (begins_set b h x some z q r) (sym (own z r) ∙ p) (omega (arith, e, y_dist, dist_at h x z b some r, as_set y, as_set z))

  -- on the other
  near_other : (z : ℕ) → P z ≡ true → bit h z ≡ not b → distance h x y ≤ distance h x z
  near_other z p r = omega (arith, y_dist, dist_at h x z (not b) some r, other z r p, chosen_le b _ _ chosen)

  least_other : (c : Bool) → b ≡ c → (z : ℕ) → z / 2 ^ h ≡ x / 2 ^ h → P z ≡ true → bit h z ≡ not b → distance h x z ≡ distance h x y → y ≤ z
  least_other true s z q p r e = absurd (omega (arith, e, y_dist, dist_at h x z (not b) some r, other z r p, chosen_lt b _ _ chosen s))
  least_other false s z q p r e = off_before h y z some (begins ∙ sym q) (y_bit ∙ s) (r ∙ ap not s)

  pub node_nearest : Nearest P h x y
  node_nearest = record {
    begins = begins;
    passes = own y y_bit ∙ S.passes;
    nearest = λ z q p. elim (either (bit h z) b) [ inl r ↦ near_same z q p r | inr r ↦ near_other z p r ];
    least = λ z q p e. elim (either (bit h z) b) [ inl r ↦ least_same z q p r e | inr r ↦ least_other b refl z q p r e ];
  }

-- what it costs to keep a setting, and to turn it over
keep_cost : (h x : ℕ) → cost h x (bit h x) ≡ 0
keep_cost h x = kept (bit h x)

turn_cost : (h x : ℕ) → cost h x (not (bit h x)) ≡ 1
unfolding indicator xor
turn_cost h x = go (bit h x)
  where
    go : (b : Bool) → indicator (xor b (not b)) ≡ 1
    go true = refl
    go false = refl

-- a test P by the setting of height h: as it is on or off, one of two tests decides
module _ (P : ℕ → Bool) (h x : ℕ) (some : 0 < h) (Q : Bool → ℕ → Bool) (own : (z : ℕ) → P z ≡ Q (bit h z) z) where
  by_side : (b : Bool) (z : ℕ) → bit h z ≡ b → P z ≡ Q b z
  by_side b z r = own z ∙ ap (λ (c : Bool). Q c z) r

  -- x keeps the setting: what is nearest so, and nearer than what is d apart with it turned over
  pub keep_nearest : (y d : ℕ) → Nearest (Q (bit h x)) (h - 1) x y → Apart (Q (not (bit h x))) (h - 1) x d → Chosen (bit h x) (distance (h - 1) x y) (d + 1) → Nearest P h x y
  keep_nearest y d S A l =
      node_nearest P h x some (bit h x) (Q (bit h x)) (by_side (bit h x)) y (subst (λ (v : ℕ). Nearest (Q (bit h x)) (h - 1) v y) (sym (set_own h x some)) S) d
      (λ z r p. A z (sym (by_side (not (bit h x)) z r) ∙ p))
      (subst (Chosen (bit h x) (distance (h - 1) x y + cost h x (bit h x))) (ap (λ (c : ℕ). d + c) (sym (turn_cost h x))) (chosen_mono (bit h x) _ (distance (h - 1) x y) (d + 1) (omega (arith, keep_cost h x)) l))

  -- x turns it over, where it passes so, and all that passes with it kept is d apart
  pub turn_nearest : (d : ℕ) → LooksAt (Q (not (bit h x))) (h - 1) → Q (not (bit h x)) x ≡ true → Apart (Q (bit h x)) (h - 1) x d → Chosen (not (bit h x)) 1 d → Nearest P h x (set_at (not (bit h x)) h x)
  turn_nearest d looks p A l =
      let b = not (bit h x) in
      let y = set_at b h x in
      let ends = set_ends b h x some in
      let kept = not-not (bit h x) in
      node_nearest P h x some b (Q b) (by_side b) y (own_nearest (Q b) (h - 1) y (looks y x ends ∙ p)) d (λ z r q. A z (sym (by_side (bit h x) z (r ∙ kept)) ∙ q))
      (subst (λ (c : Bool). Chosen b (distance (h - 1) x y + cost h x b) (d + cost h x c)) (sym kept)
      (chosen_mono b _ 1 _ (omega (arith, turn_cost h x, dist_ends (h - 1) x x y x refl ends, dist_self (h - 1) x)) (subst (Chosen b 1) (omega (arith, keep_cost h x)) l)))

  -- what passes is apart by the setting, too, where it is turned over
  pub apart_node : (d : ℕ) → Apart (Q (bit h x)) (h - 1) x (d + 1) → Apart (Q (not (bit h x))) (h - 1) x d → Apart P h x (d + 1)
  apart_node d A B z p = elim (either (bit h z) (bit h x)) [
    | inl r ↦ omega (arith, A z (sym (by_side (bit h x) z r) ∙ p), dist_mono (h - 1) h x z (omega arith))
    | inr r ↦ omega (arith, B z (sym (by_side (not (bit h x)) z r) ∙ p), dist_at h x z (not (bit h x)) some r, turn_cost h x)
  ]

-- one setting turned over
pub turn_dist : (h x : ℕ) → 0 < h → distance h x (set_at (not (bit h x)) h x) ≡ 1
turn_dist h x some =
    let b = not (bit h x) in
    let y = set_at b h x in
    omega (arith, dist_at h x y b some (set_bit b h x some), turn_cost h x, dist_ends (h - 1) x x y x refl (set_ends b h x some), dist_self (h - 1) x)

-- a setting that the test does not look at is kept
free_nearest : (P : ℕ → Bool) (h x y : ℕ) → 0 < h → LooksAt P (h - 1) → Nearest P (h - 1) x y → Nearest P h x y
free_nearest P h x y some looks S = keep_nearest P h x some (λ _. P) (λ z. refl) y (distance (h - 1) x y) S apart (before (bit h x))
  where
    apart : Apart P (h - 1) x (distance (h - 1) x y)
    apart z p = nearest_le P (h - 1) x y (distance (h - 1) x z) looks S (z, p, omega arith)

    before : (b : Bool) → Chosen b (distance (h - 1) x y) (distance (h - 1) x y + 1)
    before true = omega arith
    before false = omega arith

-- a test looks only at more settings, too
pub looks_up : (P : ℕ → Bool) (g h : ℕ) → g ≤ h → LooksAt P g → LooksAt P h
looks_up P g h l looks y z q = looks y z (ends_less g h y z l q)

-- ... so all settings before those that it looks at are kept
pub nearest_up : (P : ℕ → Bool) (g h x y : ℕ) → g ≤ h → LooksAt P g → Nearest P g x y → Nearest P h x y
nearest_up P g zero x y l looks S = let e : g ≡ 0 = omega arith in subst (λ (k : ℕ). Nearest P k x y) e S
nearest_up P g (suc h) x y l looks S = elim (tri g (suc h)) [
  | less q ↦ (
      let e : h ≡ suc h - 1 = omega arith in
      free_nearest P (suc h) x y (omega arith) (subst (LooksAt P) e (looks_up P g h (omega arith) looks)) (subst (λ (k : ℕ). Nearest P k x y) e (nearest_up P g h x y (omega arith) looks S)))
  | same q ↦ subst (λ (k : ℕ). Nearest P k x y) q S
  | more q ↦ absurd (omega arith)
]

-- what is apart by fewer settings is so by more
pub apart_up : (P : ℕ → Bool) (g h x d : ℕ) → g ≤ h → Apart P g x d → Apart P h x d
apart_up P g h x d l A z p = omega (arith, A z p, dist_mono g h x z l)

-- what is apart on either side of a setting, and the setting counted
pub apart_sides : (P : ℕ → Bool) (h x : ℕ) → 0 < h → (Q : Bool → ℕ → Bool) → ((z : ℕ) → P z ≡ Q (bit h z) z) → (c : Bool → ℕ) → ((b : Bool) → Apart (Q b) (h - 1) x (c b))
    → (d : ℕ) → ((b : Bool) → d ≤ c b + cost h x b) → Apart P h x d
apart_sides P h x some Q own c A d l z p = let b = bit h z in omega (arith, dist_at h x z b some refl, A b z (sym (own z) ∙ p), l b)

-- what is reached by fewer settings is so by more
pub reached_up : (P : ℕ → Bool) (g h x d : ℕ) → g ≤ h → LooksAt P g → Reached P g x d → Reached P h x d
reached_up P g h x d l looks (z, p, q) =
    let v = joined g x z in
    let ends = joined_ends g x z in
    (v, looks v z ends ∙ p, omega (arith, dist_begins g h x v l (joined_begins g x z), dist_ends g x x v z refl ends))

-- what is reached with a setting on, or off, and the setting counted
pub reached_side : (P : ℕ → Bool) (h x : ℕ) → 0 < h → (b : Bool) (Q : ℕ → Bool) → ((z : ℕ) → bit h z ≡ b → P z ≡ Q z) → LooksAt Q (h - 1) → (d : ℕ) → Reached Q (h - 1) x d
    → Reached P h x (d + cost h x b)
reached_side P h x some b Q own looks d (z, p, q) =
    let v = set_at b h z in
    let ends = set_ends b h z some in
    (v, own v (set_bit b h z some) ∙ looks v z ends ∙ p, omega (arith, dist_at h x v b some (set_bit b h z some), dist_ends (h - 1) x x v z refl ends))

-- what does not pass is apart from what does
pub apart_one : (P : ℕ → Bool) (h x : ℕ) → LooksAt P h → P x ≡ false → Apart P h x 1
apart_one P h x looks out z p = elim (tri 0 (distance h x z)) [
  | less l ↦ omega arith
  | same e ↦ absurd (true≢false (sym p ∙ looks z x (dist_zero h x z (sym e)) ∙ out))
  | more l ↦ absurd (omega arith)
]
