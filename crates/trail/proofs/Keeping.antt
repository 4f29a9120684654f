-- The way down that is kept from one rank to the next, in the terms of the code. Assumes nothing.
use Prim.Native.Nat.{ℕ, suc, ◌+◌, ◌-◌, ◌*◌, ◌/◌, ◌^◌, ◌≤◌, ◌<◌}
use mathlib.Core.Path.{◌≡◌, sym, ap, subst, ◌∙◌}
use mathlib.Core.Bool.{Bool}
use mathlib.Core.List.{List}
use native.Mathlib.Omega.{arith}
use native.Mathlib.Nat.{div-one, div-div-eq-div-mul, pow-succ'}
use lib.ListN.{get_or, set, length-set}
use lib.Seq.{get_or-set_same, get_or-set_other}
use lib.Pow.{pow_mono}
use Rattle.words.specs.Words.{word_at}
use Rattle.words.proofs.Cases.{less, same, more, tri}
use Rattle.diagram.specs.Format.{Words}
use Rattle.diagram.specs.Meaning.{under}
use Rattle.diagram.specs.Count.{count_below}
use Rattle.diagram.proofs.CountLaws.{count_le}
use Rattle.descent.specs.declared.Way.{Way}
use Rattle.descent.specs.Inner.{Chosen, ChosenBy, Advances}
use Rattle.descent.proofs.Beginning.{beginning_span}
use Rattle.descent.proofs.Choosing.{chosen_fits, chosen_counts, chosen_last, digits_fit}
use Rattle.descent.proofs.Ways.{at_top}
use Rattle.trail.specs.Inner.{Entry, Trail, Follows, Reaches}

-- the digits before the last j and one more
halved : (x y j : ℕ) → y / 2 ≡ x → y / 2 ^ suc j ≡ x / 2 ^ j
halved x y j e = ap (λ (m : ℕ). y / m) (pow-succ' 2 j) ∙ sym (div-div-eq-div-mul y 2 (2 ^ j)) ∙ ap (λ (m : ℕ). m / 2 ^ j) e

-- what the settings chosen say of the rank asked for
module _ (w : Words) (n root asked h e left x : ℕ) (C : Chosen w n root asked h e left x) where
  abbrev P : ℕ → Bool
  P = under w root

  pub left_below : left < count_below (under w e) (2 ^ h)
  left_below = omega (arith, C.number.below, chosen_counts w n root asked h e left x C)

  asked_below : asked < 2 ^ n
  asked_below =
      let fits = chosen_fits w n root asked h e left x C in
      omega (arith, C.number.less, C.number.below, beginning_span P n h x fits, count_le P ((x + 1) * 2 ^ h), fits)

-- a later rank under the same settings
entry_rise : (t s : List ℕ) (n root r h e end x : ℕ) → Entry t s n root r h e end x → (r' : ℕ) → r ≤ r' → r' < end → Entry t s n root r' h e end x
entry_rise t s n root r h e end x E r' l u =
    let C = E.chosen in
    let q = left_below (word_at t) n root r h e E.left x C in
    record {
      opens = E.opens;
      left = E.left + (r' - r);
      chosen = record {
        few = C.few;
        same = C.same;
        number = record {
          less = omega (arith, C.number.less);
          below = omega (arith, E.end_is, chosen_counts (word_at t) n root r h e E.left x C);
        };
      };
      end_is = omega (arith, E.end_is);
    }

-- ... so the way that was kept serves it
pub trail_rise : (t s : List ℕ) (n root r : ℕ) (edges ends : List ℕ) (h x : ℕ) → Trail t s n root r edges ends h x → (r' : ℕ) → r ≤ r' → Trail t s n root r' edges ends h x
trail_rise t s n root r edges ends h x T r' l = record {
  few = T.few;
  edges_long = T.edges_long;
  ends_long = T.ends_long;
  top = T.top;
  entry = λ k i j u. entry_rise t s n root r k (get_or edges k 0) (get_or ends k 0) (x / 2 ^ (k - h)) (T.entry k i j (omega arith)) r' l u;
}

-- a way that is followed
module _ (t s : List ℕ) (n root r : ℕ) (edges ends : List ℕ) (h : ℕ) (way : Way) (F : Follows t s n root r edges ends h way) where
  abbrev w : Words
  w = word_at t

  pub digits_few : 0 < h → way.digits < 2 ^ 63
  digits_few tall = omega (arith, digits_fit t s n root r h way.edge.value way.left way.digits F.stands.opens tall F.chosen F.trail.few)

  -- followed to the end, it leads to the setup
  pub reached : h ≤ 0 → Reaches t s n root r edges ends way.digits
  reached z =
      let e : h ≡ 0 = omega arith in
      record {
        setup_is = chosen_last w n root r h way.edge.value way.left way.digits z F.chosen;
        trail = subst (λ (k : ℕ). Trail t s n root r edges ends k way.digits) e F.trail;
      }

  -- by one setting more, before it is kept
  module _ (tall : 0 < h) (next : Way) (A : Advances t s h way next) where
    abbrev end : ℕ
    end = r - next.left + next.count

    chosen_next : ChosenBy w n root r (h - 1) next
    chosen_next = A.chosen n root r F.chosen

    here : Entry t s n root r (h - 1) next.edge.value end next.digits
    here = record {
      opens = A.stands.opens;
      left = next.left;
      chosen = chosen_next;
      end_is = omega (arith, chosen_next.number.less, A.stands.below.count_is);
    }

    entries : (k : ℕ) → h - 1 ≤ k → k ≤ n → r < get_or (set ends (h - 1) end) k 0
        → Entry t s n root r k (get_or (set edges (h - 1) next.edge.value) k 0) (get_or (set ends (h - 1) end) k 0) (next.digits / 2 ^ (k - (h - 1)))
    entries k i j u =
        let T = F.trail in
        elim (tri k (h - 1)) [
          | less q ↦ absurd (omega arith)
          | same q ↦
              let z : k - (h - 1) ≡ 0 = omega arith in
              rw (z, q, get_or-set_same edges (h - 1) next.edge.value 0 (omega (arith, T.edges_long, T.few, F.low)), get_or-set_same ends (h - 1) end 0 (omega (arith, T.ends_long, T.few, F.low)), div-one)
              here
          | more q ↦
              let m : k ≡ h - 1 → ⊥ = λ e. omega arith in
              let z : k - (h - 1) ≡ suc (k - h) = omega arith in
              let v : r < get_or ends k 0 = rw (← (get_or-set_other ends (h - 1) k end 0 m)) u in
              rw (z, get_or-set_other edges (h - 1) k next.edge.value 0 m, get_or-set_other ends (h - 1) k end 0 m, halved way.digits next.digits (k - h) A.digits)
              (T.entry k (omega arith) j v)
        ]

    pub advanced : (edges' ends' : List ℕ) → edges' ≡ set edges (h - 1) next.edge.value → ends' ≡ set ends (h - 1) end → Follows t s n root r edges' ends' (h - 1) next
    advanced edges' ends' p q =
        let T = F.trail in
        rw (p, q) (record {
          low = omega (arith, F.low);
          stands = A.stands;
          chosen = chosen_next;
          trail = record {
            few = T.few;
            edges_long = simp length-set T.edges_long;
            ends_long = simp length-set T.ends_long;
            top = get_or-set_other ends (h - 1) n end 0 (λ e. omega (arith, F.low)) ∙ T.top;
            entry = entries;
          };
        })

    -- it can be kept
    pub next_keepable : (h - 1 < 64) × (next.left ≤ r) × (r + next.count < 2 ^ 64)
    next_keepable =
        let c : next.count ≤ 2 ^ (h - 1) = rw A.stands.below.count_is (count_le (under w next.edge.value) (2 ^ (h - 1))) in
        let i : 2 ^ (h - 1) ≤ 2 ^ 63 = pow_mono {i = h - 1} {j = 63} (omega (arith, F.low, F.trail.few)) in
        let j : 2 ^ n ≤ 2 ^ 63 = pow_mono {i = n} {j = 63} F.trail.few in
        (omega (arith, F.low, F.trail.few), omega (arith, chosen_next.number.less), omega (arith, asked_below w n root r h way.edge.value way.left way.digits F.chosen))

-- a way whose node is as high as the settings left
pub at_node : (t s : List ℕ) (n root r : ℕ) (edges ends : List ℕ) (h : ℕ) (way : Way) → Follows t s n root r edges ends h way → h ≤ way.height → Follows t s n root r edges ends way.height way
at_node t s n root r edges ends h way F l = subst (λ (k : ℕ). Follows t s n root r edges ends k way) (at_top t s h way F.stands l).0 F
