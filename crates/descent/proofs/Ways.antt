-- A way down, by one setting more: what lies below it, and what was chosen. Assumes nothing.
use Prim.Native.Nat.{ℕ, ◌+◌, ◌-◌, ◌*◌, ◌/◌, ◌%◌, ◌^◌, ◌≤◌, ◌<◌}
use mathlib.Core.Path.{◌≡◌, refl, sym, ap, subst, ◌∙◌}
use mathlib.Core.Bool.{Bool, true, false, cond}
use mathlib.Core.List.{List}
use native.Mathlib.Omega.{arith}
use lib.Dec.{leb}
use lib.ListN.{length}
use borrow.Author.Tests.{leb-true, leb-false}
use Rattle.words.specs.Words.{word_at}
use Rattle.diagram.specs.Format.{Words, height}
use Rattle.diagram.specs.Meaning.{under}
use Rattle.diagram.specs.Count.{count_below}
use Rattle.diagram.specs.Reading.{IsRecord, Within, turn, cofactor}
use Rattle.diagram.proofs.Cofactor.{passes_below, goes_on, cofactor_counts}
use Rattle.diagram.proofs.Inside.{within_room}
use Rattle.counting.specs.Inner.{Opens}
use Rattle.descent.specs.declared.Way.{Way}
use Rattle.descent.specs.Inner.{Chosen, IsBelow, IsChoice, Stands, Crossed, Advances}
use Rattle.descent.proofs.Opening.{high_node, cofactor_opens}
use Rattle.descent.proofs.Choosing.{chosen_next}

-- no node on a way is higher than the settings left
pub stands_low : (t s : List ℕ) (h : ℕ) (way : Way) → Stands t s h way → way.height ≤ h
stands_low t s h way S = omega (arith, S.opens.low, S.below.height_is)

-- where it is as high, its setting is the next one
module _ (t s : List ℕ) (h : ℕ) (way : Way) (S : Stands t s h way) (l : h ≤ way.height) where
  reached : h ≡ way.height
  reached = omega (arith, stands_low t s h way S)

  pub at_top : (h ≡ way.height) × Stands t s way.height way
  at_top = (reached, subst (λ (g : ℕ). Stands t s g way) reached S)

  pub from_top : (next : Way) → Advances t s way.height way next → Advances t s h way next
  from_top next = subst (λ (g : ℕ). Advances t s g way next) (sym reached)

module _ (t s : List ℕ) (h : ℕ) (way : Way) (S : Stands t s h way) (tall : 0 < h) where
  abbrev w : Words
  w = word_at t

  abbrev e : ℕ
  e = way.edge.value

  -- the setups of the cofactor on this side
  abbrev half : Bool → ℕ
  half b = count_below (under w (cofactor w h b e)) (2 ^ (h - 1))

  halves : way.count ≡ half false + half true
  halves =
      let W : Within t (e / 2) = S.opens.filled.within in
      S.below.count_is ∙ cofactor_counts w W.settings W.nodes W.holds.ordered e h W.inside S.opens.low tall

  -- `off` setups have the setting off; by the choice on it goes to that cofactor
  module _ (next : Way) (off : ℕ) (off-is : off ≡ half false) (on : Bool) (q : IsChoice off way.left way.digits on next.left next.digits)
      (edge_is : next.edge.value ≡ cofactor w h on e) (height_is : next.height ≡ height w (next.edge.value / 2)) (count_is : next.count ≡ cond on (way.count - off) off) where
    -- what lies below on either side, and that the number left is below it
    sides : (b : Bool) → b ≡ leb off way.left → (cond b (way.count - off) off ≡ half b) × (cond b (way.left - off) way.left < cond b (way.count - off) off)
    sides true p = (omega (arith, halves, off-is), omega (arith, leb-true off way.left (sym p), S.left_fits))
    sides false p = (off-is, leb-false off way.left (sym p))

    less_a_digit : (b : Bool) → cond b (way.digits * 2 + 1) (way.digits * 2) / 2 ≡ way.digits
    less_a_digit true = omega arith
    less_a_digit false = omega arith

    pub advances : Advances t s h way next
    advances =
        let b = sides on q.on_is in
        record {
          stands = record {
            opens = cofactor_opens t s e h next.edge.value on S.opens tall edge_is;
            below = record { height_is = height_is; count_is = count_is ∙ b.0 ∙ ap (λ (z : ℕ). count_below (under w z) (2 ^ (h - 1))) (sym edge_is) };
            left_fits = rw (q.left_is, count_is) b.1;
          };
          digits = rw q.digits_is (less_a_digit on);
          chosen = λ n root asked C.
              subst (λ (z : ℕ). Chosen w n root asked (h - 1) z next.left next.digits) (sym edge_is)
              (chosen_next t s n root asked h e way.left way.digits S.opens tall C off off-is on next.left next.digits q);
        }

  -- a setting that no node looks at: both cofactors are the edge itself
  pub crossed_advances : way.height < h → (next : Way) → Crossed way next → Advances t s h way next
  crossed_advances l next c =
      let passes : (b : Bool) → e ≡ cofactor w h b e = passes_below w e h (e / 2) way.height refl S.below.height_is l in
      let same : half true ≡ half false = ap (λ (z : ℕ). count_below (under w z) (2 ^ (h - 1))) (sym (passes true) ∙ passes false) in
      advances next (way.count / 2) (omega (arith, halves, same)) c.on c.choice (c.same_edge ∙ passes c.on)
      (c.same_height ∙ S.below.height_is ∙ ap (λ (z : ℕ). height w (z / 2)) (sym c.same_edge))
      (c.half ∙ either c.on (omega (arith, halves, same)))
    where
      either : (b : Bool) → way.count / 2 ≡ way.count - way.count / 2 → way.count / 2 ≡ cond b (way.count - way.count / 2) (way.count / 2)
      either true p = p
      either false p = refl

  -- the setting of the node reached, in the terms of the code: node v with its record, and the sides of the edge
  module _ (top : h ≤ way.height) (v : ℕ) (v-is : v ≡ e / 2) where
    height_is : way.height ≡ height w v
    height_is = S.below.height_is ∙ ap (height w) (sym v-is)

    pub node_there : (0 < v) × (8 * v + 8 ≤ length t)
    node_there = high_node t e h v way.height S.opens.filled.within tall v-is height_is top

    module _ (g a b : ℕ) (r : IsRecord w v g a b) (high low : ℕ) (sides : (high ≡ turn (e % 2) a) × (low ≡ turn (e % 2) b)) where
      pub high_is : high ≡ cofactor w h true e
      high_is = goes_on w e h v way.height v-is height_is top true a high r.then_is sides.0

      pub low_is : low ≡ cofactor w h false e
      low_is = goes_on w e h v way.height v-is height_is top false b low r.else_is sides.1

      pub low_opens : Opens t s low (h - 1)
      low_opens = cofactor_opens t s e h low false S.opens tall low_is

      pub high_room : (u : ℕ) → u ≡ high / 2 → 8 * u + 8 ≤ length t
      high_room u q = rw q (within_room t (high / 2) (cofactor_opens t s e h high true S.opens tall high_is).filled.within)

      -- with what lies below the side that is off
      module _ (g' off : ℕ) (B : IsBelow w low (h - 1) g' off) where
        off_half : off ≡ half false
        off_half = B.count_is ∙ ap (λ (z : ℕ). count_below (under w z) (2 ^ (h - 1))) low_is

        pub off_fits : off ≤ way.count
        off_fits = omega (arith, halves, off_half)

        module _ (next : Way) (on : Bool) (q : IsChoice off way.left way.digits on next.left next.digits) where
          pub goes_high : on ≡ true → next.edge.value ≡ high → (u : ℕ) → u ≡ high / 2 → next.height ≡ height w u → next.count ≡ way.count - off → Advances t s h way next
          goes_high p edge u u-is tall' count =
              advances next off off_half on q (edge ∙ high_is ∙ rw p) (tall' ∙ ap (height w) (u-is ∙ ap (λ (z : ℕ). z / 2) (sym edge))) (count ∙ rw p)

          pub goes_low : on ≡ false → next.edge.value ≡ low → next.height ≡ g' → next.count ≡ off → Advances t s h way next
          goes_low p edge tall' count =
              advances next off off_half on q (edge ∙ low_is ∙ rw p) (tall' ∙ B.height_is ∙ ap (λ (z : ℕ). height w (z / 2)) (sym edge)) (count ∙ rw p)
