-- The setups below a bound under an edge, by those under its node, in the terms of the code. Assumes nothing.
use Prim.Native.Nat.{ℕ, ◌+◌, ◌*◌, ◌/◌, ◌%◌, ◌^◌, ◌≤◌, ◌<◌}
use mathlib.Core.Path.{◌≡◌, sym, ap, subst, ◌∙◌}
use mathlib.Core.List.{List}
use native.Mathlib.Nat.{mod-lt}
use native.Mathlib.Omega.{arith}
use lib.ListN.{length}
use lib.Pow.{pow_pos, pow-lt}
use Rattle.words.specs.Words.{word_at}
use Rattle.diagram.specs.Format.{Words, height}
use Rattle.diagram.specs.Meaning.{plain, under}
use Rattle.diagram.specs.Count.{count_below}
use Rattle.diagram.specs.Reading.{opposite}
use Rattle.diagram.proofs.CountLaws.{count_le}
use Rattle.diagram.proofs.Bits.{one_shl, shl_pos}
use Rattle.diagram.proofs.Inside.{within_room, within_low}
use Rattle.diagram.proofs.Counts.{below_edge}
use Rattle.counting.specs.Inner.{Filled, Opens}
use Rattle.counting.proofs.Shares.{filled_below}
use Rattle.smaller.specs.Inner.{IsStep}

-- a sink has no setting, so no setup is below
pub none_below : (w : Words) (k y : ℕ) → k ≡ 0 → y < 2 ^ height w k → 0 ≡ count_below (plain w k) y
unfolding height count_below
none_below w k y e l = let z : y ≡ 0 = omega (arith, rw e at l) in rw z

-- edge e to node v of height g, and a bound y
module _ (t s : List ℕ) (e v y : ℕ) (F : Filled t s (e / 2)) (v-is : v ≡ e / 2) where
  abbrev w : Words
  w = word_at t

  node_filled : Filled t s v
  node_filled = subst (Filled t s) (sym v-is) F

  pub node_room : 8 * v + 8 ≤ length t
  node_room = within_room t v node_filled.within

  module _ (g : ℕ) (g-is : g ≡ height w v) where
    few : g ≤ 63
    few = omega (arith, g-is, within_low t v node_filled.within)

    pub edge_opens : Opens t s e g
    edge_opens = record { filled = F; low = omega (arith, g-is, ap (height w) v-is); few = few }

    pub some_block : 0 < 1 * 2 ^ g % 18446744073709551616
    some_block = shl_pos g few

    pub node_opens : Filled t s v × (y % (1 * 2 ^ g % 18446744073709551616) < 2 ^ height w v)
    node_opens = (node_filled, rw (one_shl g few, g-is) (mod-lt y (pow_pos (height w v))))

    -- with the counts of a block and of the last one
    module _ (block inside : ℕ) (block-is : block ≡ count_below (under w e) (2 ^ g)) (inside_is : inside ≡ count_below (plain w v) (y % (1 * 2 ^ g % 18446744073709551616))) where
      inside_count : inside ≡ count_below (plain w v) (y % 2 ^ g)
      inside_count = inside_is ∙ rw (one_shl g few)

      pub gap_opens : (g ≤ 63) × (block ≤ 2 ^ g) × (inside ≤ y % 2 ^ g)
      gap_opens = (few, rw block-is (count_le (under w e) (2 ^ g)), rw inside_count (count_le (plain w v) (y % 2 ^ g)))

      pub edge_sum : (r : ℕ) → r ≡ y / 2 ^ g * block + opposite (e % 2) (y % 2 ^ g) inside → r ≡ count_below (under w e) y
      edge_sum r q =
          let W = F.within in
          q ∙ rw (block-is, inside_count, g-is, v-is) (sym (below_edge w W.settings W.nodes W.holds.ordered e y W.inside))

-- node k left by edge e
module _ (t s : List ℕ) (k y e c rest : ℕ) (F : Filled t s k) (T : IsStep (word_at t) k y e c rest) where
  pub step_filled : Filled t s (e / 2)
  step_filled = filled_below t s k F (e / 2) (omega (arith, T.node))

  pub falls : (v m : ℕ) → v ≡ e / 2 → height (word_at t) k ≡ m → height (word_at t) v < m
  falls v m i q = rw i (omega (arith, T.low))

  -- the half passed over, and what is under the edge
  pub node_sum : (v g block inside r : ℕ) → v ≡ e / 2 → g ≡ height (word_at t) v → block ≡ count_below (under (word_at t) e) (2 ^ g)
      → inside ≡ count_below (plain (word_at t) v) (rest % (1 * 2 ^ g % 18446744073709551616)) → r ≡ rest / 2 ^ g * block + opposite (e % 2) (rest % 2 ^ g) inside
      → y < 2 ^ height (word_at t) k → (c + r ≡ count_below (plain (word_at t) k) y) × (c + r < 18446744073709551616)
  node_sum v g block inside r v-is g-is block-is inside_is r-is l =
      let q : r ≡ count_below (under (word_at t) e) rest = edge_sum t s e v rest step_filled v-is g g-is block inside block-is inside_is r r-is in
      let u : c + r ≡ count_below (plain (word_at t) k) y = rw q (sym T.sum) in
      let h = within_low t k F.within in
      (u, omega (arith, u, count_le (plain (word_at t) k) y, pow-lt {i = height (word_at t) k} {j = 64} (omega (arith, h))))
