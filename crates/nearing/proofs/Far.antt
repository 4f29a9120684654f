-- The distance under an edge, from those under its two sides. Assumes nothing.
use Prim.Native.Nat.{ℕ, ◌+◌, ◌-◌, ◌/◌, ◌≤◌}
use mathlib.Core.Path.{◌≡◌, refl, sym, ap, subst, ◌∙◌}
use mathlib.Core.Logic.{◌≢◌, ◌⊎◌, inl, inr}
use mathlib.Core.Bool.{Bool, true, false, not, cond, xor, true≢false}
use mathlib.Core.List.{List}
use native.Mathlib.Omega.{arith}
use lib.Dec.{ltb}
use borrow.Author.Tests.{ltb-true, ltb-false}
use Rattle.words.specs.Words.{word_at}
use Rattle.words.proofs.Cases.{less, same, more, tri}
use Rattle.diagram.specs.Format.{Words, height}
use Rattle.diagram.specs.Meaning.{bit, under}
use Rattle.diagram.specs.Count.{indicator}
use Rattle.diagram.proofs.CountLaws.{indicator_le}
use Rattle.diagram.proofs.Paths.{under_always, under_never}
use Rattle.walking.specs.Inner.{Forks}
use Rattle.walking.proofs.Forking.{own_side}
use Rattle.distances.specs.Inner.{Apart, Reached}
use Rattle.distances.proofs.Distances.{dist_le, dist_self}
use Rattle.distances.proofs.Looking.{edge_looks, side_looks}
use Rattle.distances.proofs.Near.{cost, apart_up, apart_sides, reached_up, reached_side}
use Rattle.nearing.specs.Inner.{lesser, IsFar}

-- a distance is at most the node's height, but for `never`
pub far_le : (w : Words) (x e d : ℕ) → IsFar w x e d → e ≢ 1 → d ≤ height w (e / 2)
far_le w x e d F q = let r = F.reached q in omega (arith, F.apart r.0 r.1, dist_le (height w (e / 2)) x r.0)

pub far_small : (w : Words) (x e d : ℕ) → IsFar w x e d → height w (e / 2) ≤ 63 → d ≤ 64
far_small w x e d F few = elim (tri e 1) [
  | less l ↦ omega (arith, far_le w x e d F (λ q. omega arith))
  | same q ↦ omega (arith, F.never q)
  | more l ↦ omega (arith, far_le w x e d F (λ q. omega arith))
]

-- the two edges to the sink
pub far_always : (w : Words) (x : ℕ) → IsFar w x 0 0
far_always w x = record { apart = λ z p. omega arith; reached = λ q. (x, under_always w x, omega (arith, dist_self (height w 0) x)); never = λ q. absurd (omega arith) }

pub far_never : (w : Words) (x : ℕ) → IsFar w x 1 64
far_never w x = record { apart = λ z p. absurd (true≢false (sym p ∙ under_never w z)); reached = λ q. absurd (q refl); never = λ q. refl }

-- what it costs to have a setting off, or on, where it was so
cost_off : (h x : ℕ) → cost h x false ≡ indicator (bit h x)
unfolding indicator xor
cost_off h x = go (bit h x)
  where
    go : (b : Bool) → indicator (xor b false) ≡ indicator b
    go true = refl
    go false = refl

cost_on : (h x : ℕ) → cost h x true ≡ 1 - indicator (bit h x)
unfolding indicator xor
cost_on h x = go (bit h x)
  where
    go : (b : Bool) → indicator (xor b true) ≡ 1 - indicator b
    go true = refl
    go false = refl

-- the lesser of two costs, and which it is
lesser_le : (a b : ℕ) → (lesser a b ≤ a) × (lesser a b ≤ b)
unfolding lesser
lesser_le a b = go (ltb b a) refl
  where
    go : (c : Bool) → ltb b a ≡ c → (cond c b a ≤ a) × (cond c b a ≤ b)
    go true q = let l = ltb-true b a q in (omega arith, omega arith)
    go false q = let l = ltb-false b a q in (omega arith, omega arith)

lesser_is : (a b : ℕ) → (lesser a b ≡ a) ⊎ (lesser a b ≡ b)
unfolding lesser
lesser_is a b = go (ltb b a)
  where
    go : (c : Bool) → (cond c b a ≡ a) ⊎ (cond c b a ≡ b)
    go true = inr refl
    go false = inl refl

-- edge e by its two sides, whose distances are `on` and `off`, where the setting of its node was as in x
module _ (t : List ℕ) (n x e h high low : ℕ) (F : Forks t n e h high low) (on off was : ℕ) (far_high : IsFar (word_at t) x high on) (far_low : IsFar (word_at t) x low off) (was-is : was ≡ indicator (bit h x)) where
  abbrev w : Words
  w = word_at t

  pub far_side : (b : Bool) → IsFar w x (cond b high low) (cond b on off)
  far_side true = far_high
  far_side false = far_low

  -- the cost of either side
  pub side_cost : (b : Bool) → cond b on off + cost h x b ≡ cond b (on + (1 - was)) (off + was)
  side_cost true = omega (arith, cost_on h x, was-is)
  side_cost false = omega (arith, cost_off h x, was-is)

  -- by its own settings up to the one before
  pub side_apart : (b : Bool) → Apart (under w (cond b high low)) (h - 1) x (cond b on off)
  side_apart b = apart_up (under w (cond b high low)) (height w (cond b high low / 2)) (h - 1) x (cond b on off) (omega (arith, F.lower b)) (far_side b).apart

  -- a side that costs no more than the other is not `never`
  pub cheaper : (b : Bool) → cond b on off + cost h x b ≤ cond (not b) on off + cost h x (not b) → cond b high low ≢ 1
  cheaper b l q =
      omega
      (arith, (far_side b).never q, far_le w x (cond (not b) high low) (cond (not b) on off) (far_side (not b)) (differs b q), F.lower (not b), indicator_le (xor (bit h x) (not b)), F.few, (F.lies b).holds.few_settings)
    where
      differs : (c : Bool) → cond c high low ≡ 1 → cond (not c) high low ≢ 1
      differs true p r = F.differ (p ∙ sym r)
      differs false p r = F.differ (r ∙ sym p)

  abbrev d : ℕ
  d = lesser (off + was) (on + (1 - was))

  side_le : (b : Bool) → d ≤ cond b on off + cost h x b
  side_le b = rw (side_cost b) (go b)
    where
      go : (c : Bool) → d ≤ cond c (on + (1 - was)) (off + was)
      go true = (lesser_le (off + was) (on + (1 - was))).1
      go false = (lesser_le (off + was) (on + (1 - was))).0

  reached_by : (b : Bool) → d ≡ cond b (on + (1 - was)) (off + was) → Reached (under w e) h x d
  reached_by b q =
      let s = cond b high low in
      let looks = edge_looks t n s (F.lies b) in
      let some = (far_side b).reached (cheaper b (omega (arith, side_le (not b), side_cost b, q))) in
      subst (Reached (under w e) h x) (side_cost b ∙ sym q)
      (reached_side (under w e) h x F.tall b (under w s) (own_side F b) (side_looks F b) (cond b on off) (reached_up (under w s) (height w (s / 2)) (h - 1) x (cond b on off) (omega (arith, F.lower b)) looks some))

  -- so the lesser cost is its distance
  pub far_edge : IsFar w x e d
  unfolding height
  far_edge = record {
    apart = subst (λ (g : ℕ). Apart (under w e) g x d) F.height_is (apart_sides (under w e) h x F.tall (λ b. under w (cond b high low)) F.own (λ b. cond b on off) side_apart d side_le);
    reached = λ _. subst (λ (g : ℕ). Reached (under w e) g x d) F.height_is (elim (lesser_is (off + was) (on + (1 - was))) [ inl q ↦ reached_by false q | inr q ↦ reached_by true q ]);
    never = λ q. absurd (omega (arith, F.tall, F.height_is ∙ ap (λ (v : ℕ). height w (v / 2)) q));
  }
