-- The way of a setup that is not permitted, and the setups one setting off it, in the terms of the code. Assumes nothing.
use Prim.Native.Nat.{ℕ, zero, suc, ◌+◌, ◌-◌, ◌/◌, ◌≤◌}
use mathlib.Core.Path.{◌≡◌, refl, sym, ap, subst, ◌∙◌}
use mathlib.Core.Bool.{Bool, true, false, not, cond, true≢false}
use mathlib.Core.List.{List}
use native.Mathlib.Omega.{arith}
use Rattle.std.specs.Prelude.{Option, Some, None, IfSome}
use Rattle.words.specs.Words.{word_at}
use Rattle.diagram.specs.declared.Setup.{Setup}
use Rattle.diagram.specs.Format.{Words, height}
use Rattle.diagram.specs.Meaning.{bit, under}
use Rattle.diagram.specs.Reading.{Within}
use Rattle.diagram.proofs.Paths.{under_always, under_never}
use Rattle.walking.specs.Inner.{LiesIn, Forks}
use Rattle.distances.specs.Distance.{distance}
use Rattle.distances.specs.Inner.{set_at, Apart, Nearest, Chosen}
use Rattle.distances.proofs.Distances.{dist_begins}
use Rattle.distances.proofs.Near.{nearest_up, apart_up, apart_one, apart_node, keep_nearest, turn_nearest, turn_dist}
use Rattle.distances.proofs.Looking.{edge_looks, side_looks}

-- the way of x is at edge e, which does not permit it. What is nearest from there on, one setting off, is nearest from the first edge on; if all from there on is two or more off, `best` is, if there is one
pub record Seeks (t : List ℕ) (first x e : ℕ) (best : Option Setup) : Type 0 where
  pub lies : LiesIn t e
  pub out : under (word_at t) e x ≡ false
  pub near : (y : ℕ) → Nearest (under (word_at t) e) (height (word_at t) (e / 2)) x y → distance (height (word_at t) (e / 2)) x y ≤ 1
      → Nearest (under (word_at t) first) (height (word_at t) (first / 2)) x y
  pub apart : Apart (under (word_at t) e) (height (word_at t) (e / 2)) x 2 → IfSome best (λ y. Nearest (under (word_at t) first) (height (word_at t) (first / 2)) x y.0)

-- before the first node
pub seeks_first : (t : List ℕ) (e x : ℕ) → LiesIn t e → under (word_at t) e x ≡ false → Seeks t e x e None
seeks_first t e x L out = record { lies = L; out = out; near = λ y N l. N; apart = λ A. tt }

-- at the sink: it is `never`
pub seeks_last : (t : List ℕ) (first x e : ℕ) (best : Option Setup) → Seeks t first x e best → e / 2 ≡ 0 → IfSome best (λ y. Nearest (under (word_at t) first) (height (word_at t) (first / 2)) x y.0)
seeks_last t first x e best K z =
    let w = word_at t in
    K.apart (λ y p. absurd (true≢false (sym p ∙ ap (λ (d : ℕ). under w d y) (never e z K.out) ∙ under_never w y)))
  where
    never : (d : ℕ) → d / 2 ≡ 0 → under (word_at t) d x ≡ false → d ≡ 1
    never zero q out = absurd (true≢false (sym (under_always (word_at t) x) ∙ out))
    never (suc zero) q out = refl
    never (suc (suc d)) q out = absurd (omega arith)

-- a side lies in the diagram
pub side_within : (t : List ℕ) (n e h high low : ℕ) → Forks t n e h high low → (b : Bool) (d : ℕ) → d ≡ cond b high low → Within t (d / 2)
side_within t n e h high low F b d q = let L = F.lies b in rw q record { settings = n; nodes = L.nodes; holds = L.holds; inside = L.inside }

one_two : (b : Bool) → Chosen b 1 2
one_two true = omega arith
one_two false = omega arith

below_two : (b : Bool) (c : ℕ) → c ≤ 1 → Chosen b c (1 + 1)
below_two true c l = omega arith
below_two false c l = omega arith

-- at a node
module _ (t : List ℕ) (first x e : ℕ) (best : Option Setup) (K : Seeks t first x e best) (h high low : ℕ) (S : Forks t K.lies.0 e h high low) where
  abbrev w : Words
  w = word_at t

  abbrev side : Bool → ℕ
  side b = cond b high low

  -- x goes on by its own setting, where it is not permitted either
  abbrev own : Bool
  own = bit h x

  abbrev other : Bool
  other = not (bit h x)

  kept_out : under w (side own) x ≡ false
  kept_out = sym (S.own x) ∙ K.out

  -- what is nearest behind it, where all that passes with the setting turned over is d apart
  near_kept : (d : ℕ) → Apart (under w (side other)) (h - 1) x d → ((c : ℕ) → c ≤ 1 → Chosen own c (d + 1)) → (y : ℕ) → Nearest (under w (side own)) (height w (side own / 2)) x y
      → distance (height w (side own / 2)) x y ≤ 1 → Nearest (under w first) (height w (first / 2)) x y
  near_kept d A l y N few =
      let s = side own in
      let g = height w (s / 2) in
      let low-side : g ≤ h - 1 = omega (arith, S.lower own) in
      let N' = nearest_up (under w s) g (h - 1) x y low-side (edge_looks t K.lies.0 s (S.lies own)) N in
      let same : (k : ℕ) → g ≤ k → distance k x y ≡ distance g x y = λ k i. dist_begins g k x y i N.begins in
      let all = keep_nearest (under w e) h x S.tall (λ b. under w (cond b high low)) S.own y d N' A (l (distance (h - 1) x y) (omega (arith, same (h - 1) low-side))) in
      K.near y (subst (λ (k : ℕ). Nearest (under w e) k x y) S.height_is all) (omega (arith, same (height w (e / 2)) (omega (arith, S.height_is, S.tall))))

  -- x with its setting turned over, where that is permitted and all else is d apart
  near_turned : (d : ℕ) → under w (side other) x ≡ true → Apart (under w (side own)) (h - 1) x d → Chosen other 1 d → Nearest (under w first) (height w (first / 2)) x (set_at other h x)
  near_turned d p A l =
      let all = turn_nearest (under w e) h x S.tall (λ b. under w (cond b high low)) S.own d (side_looks S other) p A l in
      K.near (set_at other h x) (subst (λ (k : ℕ). Nearest (under w e) k x (set_at other h x)) S.height_is all) (subst (λ (k : ℕ). distance k x (set_at other h x) ≤ 1) S.height_is (omega (arith, turn_dist h x S.tall)))

  up_kept : (d : ℕ) → Apart (under w (side own)) (height w (side own / 2)) x d → Apart (under w (side own)) (h - 1) x d
  up_kept d = apart_up (under w (side own)) (height w (side own / 2)) (h - 1) x d (omega (arith, S.lower own))

  -- as the code finds it: whether the setting is on, and whether x is permitted with it turned over
  module _ (on : Bool) (on_is : on ≡ bit h x) (turned : ℕ) (turned-is : turned ≡ cond (not on) high low) (p : Bool) (p-is : p ≡ under w turned x) where
    by_code : under w (side other) x ≡ p
    by_code = ap (λ (c : Bool). under w (cond (not c) high low) x) (sym on_is) ∙ ap (λ (d : ℕ). under w d x) (sym turned-is) ∙ sym p-is

    as_turned : (y : ℕ) → y ≡ set_at (not on) h x → y ≡ set_at other h x
    as_turned y q = q ∙ ap (λ (c : Bool). set_at (not c) h x) on_is

    as_kept : (next : ℕ) → next ≡ cond on high low → next ≡ side own
    as_kept next q = q ∙ ap (λ (c : Bool). cond c high low) on_is

    -- it is on: no other setup one setting off is smaller
    pub found_off : p ≡ true → on ≡ true → (y : ℕ) → y ≡ set_at (not on) h x → Nearest (under w first) (height w (first / 2)) x y
    found_off q r y y-is =
        subst (Nearest (under w first) (height w (first / 2)) x) (sym (as_turned y y-is))
        (near_turned 1 (by_code ∙ q) (apart_one (under w (side own)) (h - 1) x (side_looks S own) kept_out) (subst (λ (b : Bool). Chosen (not b) 1 1) (sym r ∙ on_is) (omega arith)))

    -- it is off: this one is kept for the case that none is found behind it
    pub found_on : p ≡ true → on ≡ false → (y : Setup) (next : ℕ) → y.0 ≡ set_at (not on) h x → next ≡ cond on high low → Seeks t first x next (Some y)
    found_on q r y next y-is next_is = rw (as_kept next next_is) record {
      lies = (K.lies.0, S.lies own);
      out = kept_out;
      near = near_kept 0 (λ z i. omega arith) (λ c l. subst (λ (b : Bool). Chosen b c (0 + 1)) (sym r ∙ on_is) (omega arith));
      apart = λ A. subst (Nearest (under w first) (height w (first / 2)) x) (sym (as_turned y.0 y-is)) (near_turned 2 (by_code ∙ q) (up_kept 2 A) (one_two other));
    }

    -- not permitted so either
    pub found_none : p ≡ false → (next : ℕ) → next ≡ cond on high low → Seeks t first x next best
    found_none q next next_is =
        let B = apart_one (under w (side other)) (h - 1) x (side_looks S other) (by_code ∙ q) in
        rw (as_kept next next_is) record {
          lies = (K.lies.0, S.lies own);
          out = kept_out;
          near = near_kept 1 B (below_two own);
          apart = λ A. K.apart (subst (λ (k : ℕ). Apart (under w e) k x 2) S.height_is (apart_node (under w e) h x S.tall (λ b. under w (cond b high low)) S.own 1 (up_kept 2 A) B));
        }
