-- The way to the nearest setup, by one node more, in the terms of the code. Assumes nothing.
use Prim.Native.Nat.{ℕ, ◌+◌, ◌-◌, ◌/◌, ◌%◌, ◌^◌, ◌≤◌, ◌<◌}
use mathlib.Core.Path.{◌≡◌, refl, sym, ap, subst, ◌∙◌}
use mathlib.Core.Logic.{◌≢◌}
use mathlib.Core.Bool.{Bool, true, false, not, cond}
use mathlib.Core.List.{List}
use native.Mathlib.Omega.{arith}
use lib.Dec.{ltb}
use lib.ListN.{get_or}
use borrow.Author.Tests.{ltb-true, ltb-false}
use Rattle.words.specs.Words.{word_at}
use Rattle.diagram.specs.Format.{Words, height}
use Rattle.diagram.specs.Meaning.{bit, under}
use Rattle.diagram.specs.Count.{indicator}
use Rattle.diagram.proofs.Paths.{under_always}
use Rattle.diagram.proofs.Bits.{bit_mod}
use Rattle.walking.specs.Inner.{LiesIn, Forks}
use Rattle.walking.proofs.Forking.{own_side}
use Rattle.distances.specs.Distance.{distance}
use Rattle.distances.specs.Inner.{set_at, LooksAt, Nearest, Chosen}
use Rattle.distances.proofs.Settings.{set_ends, set_fits, ends_less}
use Rattle.distances.proofs.Distances.{dist_ends}
use Rattle.distances.proofs.Looking.{edge_looks, side_looks}
use Rattle.distances.proofs.Near.{cost, chosen_le, chosen_mono, own_nearest, node_nearest, nearest_up, nearest_le, reached_up}
use Rattle.nearing.specs.Inner.{IsFar, Filled, Opens}
use Rattle.nearing.proofs.Far.{far_side, side_cost, side_apart, cheaper}

-- edge e is reached, and the settings before it are chosen in y: whatever is nearest to y from there on is nearest to x from the first edge on
pub record Goes (t : List ℕ) (first x e y : ℕ) : Type 0 where
  pub lies : LiesIn t e
  pub inside : e / 2 ≤ first / 2
  pub not_never : e ≢ 1
  pub small : y < 2 ^ 63
  pub ends : y % 2 ^ height (word_at t) (e / 2) ≡ x % 2 ^ height (word_at t) (e / 2)
  pub goes : (r : ℕ) → Nearest (under (word_at t) e) (height (word_at t) (e / 2)) y r → Nearest (under (word_at t) first) (height (word_at t) (first / 2)) x r

-- before the first node
pub goes_first : (t s : List ℕ) (e x : ℕ) → Opens t s e x → Goes t e x e x
goes_first t s e x O = record { lies = O.lies; inside = omega arith; not_never = O.not_never; small = O.small; ends = refl; goes = λ r N. N }

-- at the sink: it is `always`
pub goes_last : (t : List ℕ) (first x e y : ℕ) → Goes t first x e y → e / 2 ≡ 0 → Nearest (under (word_at t) first) (height (word_at t) (first / 2)) x y
goes_last t first x e y K z =
    let always : e ≡ 0 = omega (arith, K.not_never) in
    K.goes y (own_nearest (under (word_at t) e) (height (word_at t) (e / 2)) y (ap (λ (d : ℕ). under (word_at t) d y) always ∙ under_always (word_at t) y))

-- the side that is chosen
chosen_is : (b : Bool) (on off : ℕ) → b ≡ ltb on off → Chosen b (cond b on off) (cond (not b) on off)
chosen_is true on off q = ltb-true on off (sym q)
chosen_is false on off q = ltb-false on off (sym q)

-- one node more
module _ (t s : List ℕ) (first x e y : ℕ) (K : Goes t first x e y) (G : Filled t s x (first / 2)) (h high low : ℕ) (S : Forks t K.lies.0 e h high low) where
  abbrev w : Words
  w = word_at t

  abbrev n : ℕ
  n = K.lies.0

  ends : y % 2 ^ h ≡ x % 2 ^ h
  ends = subst (λ (g : ℕ). y % 2 ^ g ≡ x % 2 ^ g) (sym S.height_is) K.ends

  same_bit : bit h y ≡ bit h x
  same_bit = sym (bit_mod h h y S.tall (omega arith)) ∙ ap (bit h) ends ∙ bit_mod h h x S.tall (omega arith)

  module _ (was : ℕ) (was-is : was ≡ indicator (bit h y)) (off on : ℕ) (costs : (off ≡ get_or s low 0 + was) × (on ≡ get_or s high 0 + (1 - was))) (b : Bool) (b-is : b ≡ ltb on off) where
    far_high : IsFar w x high (get_or s high 0)
    far_high = G.far high (omega (arith, S.smaller true, K.inside))

    far_low : IsFar w x low (get_or s low 0)
    far_low = G.far low (omega (arith, S.smaller false, K.inside))

    was_x : was ≡ indicator (bit h x)
    was_x = was-is ∙ ap indicator same_bit

    abbrev dist : Bool → ℕ
    dist c = cond c (get_or s high 0) (get_or s low 0)

    cost_is : (c : Bool) → cond c on off ≡ dist c + cost h x c
    cost_is c = go c ∙ sym (side_cost t n x e h high low S (get_or s high 0) (get_or s low 0) was far_high far_low was_x c)
      where
        go : (d : Bool) → cond d on off ≡ cond d (get_or s high 0 + (1 - was)) (get_or s low 0 + was)
        go true = costs.1
        go false = costs.0

    chosen : Chosen b (dist b + cost h x b) (dist (not b) + cost h x (not b))
    chosen = rw (← (cost_is b), ← (cost_is (not b))) (chosen_is b on off b-is)

    abbrev next : ℕ
    next = cond b high low

    abbrev v : ℕ
    v = set_at b h y

    -- the settings behind that of the node are those of x still
    v_ends : v % 2 ^ (h - 1) ≡ x % 2 ^ (h - 1)
    v_ends = set_ends b h y S.tall ∙ ends_less (h - 1) h y x (omega arith) ends

    looks : LooksAt (under w next) (height w (next / 2))
    looks = edge_looks t n next (S.lies b)

    below : height w (next / 2) ≤ h - 1
    below = omega (arith, S.lower b)

    not_never : next ≢ 1
    not_never = cheaper t n x e h high low S (get_or s high 0) (get_or s low 0) was far_high far_low was_x b (chosen_le b _ _ chosen)

    -- the nearest from there on differs from y as much as the sheet says, or less
    as_far : (r : ℕ) → Nearest (under w next) (h - 1) v r → distance (h - 1) y r ≤ dist b
    as_far r N =
        let R = reached_up (under w next) (height w (next / 2)) (h - 1) x (dist b) below looks ((far_side t n x e h high low S (get_or s high 0) (get_or s low 0) was far_high far_low was_x b).reached not_never) in
        let l = nearest_le (under w next) (h - 1) v r (dist b) (side_looks S b) N (R.0, R.1, omega (arith, R.2, dist_ends (h - 1) v x R.0 R.0 v_ends refl)) in
        omega (arith, dist_ends (h - 1) v y r r (set_ends b h y S.tall) refl)

    on_side_lem : (r : ℕ) → Nearest (under w next) (h - 1) v r → Nearest (under w e) h y r
    on_side_lem r N =
        node_nearest (under w e) h y S.tall b (under w next) (own_side S b) r N (dist (not b)) other
        (chosen_mono b (distance (h - 1) y r + cost h y b) (dist b + cost h y b) (dist (not b) + cost h y (not b)) (omega (arith, as_far r N)) (rw same_bit chosen))
      where
        other : (z : ℕ) → bit h z ≡ not b → under w e z ≡ true → dist (not b) ≤ distance (h - 1) y z
        other z q p =
            omega
            (arith, side_apart t n x e h high low S (get_or s high 0) (get_or s low 0) was far_high far_low was_x (not b) z (sym (own_side S (not b) z q) ∙ p), dist_ends (h - 1) y x z z (ends_less (h - 1) h y x (omega arith) ends) refl)

    pub goes_next : (next' y' : ℕ) → next' ≡ next → y' ≡ v → Goes t first x next' y'
    goes_next next' y' next_is y-is = rw (next_is, y-is) record {
      lies = (n, S.lies b);
      inside = omega (arith, S.smaller b, K.inside);
      not_never = not_never;
      small = set_fits b h y S.tall 63 (omega (arith, S.few, (S.lies b).holds.few_settings)) K.small;
      ends = ends_less (height w (next / 2)) (h - 1) v x below v_ends;
      goes = λ r N. K.goes r (subst (λ (g : ℕ). Nearest (under w e) g y r) S.height_is (on_side_lem r (nearest_up (under w next) (height w (next / 2)) (h - 1) v r below looks N)));
    }
