-- A node inside the diagram that some bytes hold: it has its record there, is tall, and its edges lead below it. Assumes nothing.
use Prim.Native.Nat.{ℕ, ◌+◌, ◌*◌, ◌/◌, ◌≤◌, ◌<◌}
use mathlib.Core.Path.{sym, subst}
use mathlib.Core.Bool.{true, false}
use mathlib.Core.List.{List}
use native.Mathlib.Omega.{arith}
use lib.ListN.{length}
use Rattle.words.specs.Words.{word_at}
use Rattle.diagram.specs.Format.{height}
use Rattle.diagram.specs.Reading.{IsRecord, Within}
use Rattle.diagram.proofs.Paths.{Lower, height_le_settings, tall_node, side_lower}

module _ (t : List ℕ) (k : ℕ) (W : Within t k) where
  -- it has its record in the table
  pub within_room : 8 * k + 8 ≤ length t
  within_room = omega (arith, W.inside, W.holds.long)

  pub within_low : height (word_at t) k ≤ 63
  within_low = omega (arith, height_le_settings (word_at t) W.settings W.nodes W.holds.ordered k W.inside, W.holds.few_settings)

  -- a smaller node is inside too
  pub within_below : (j : ℕ) → j ≤ k → Within t j
  within_below j l = record { settings = W.settings; nodes = W.nodes; holds = W.holds; inside = omega (arith, W.inside) }

  pub lower_within : (e : ℕ) → Lower (word_at t) k e → Within t (e / 2)
  lower_within e l = within_below (e / 2) (omega (arith, l.node))

module _ (t : List ℕ) (k h a b : ℕ) (p : 0 < k) (W : Within t k) (r : IsRecord (word_at t) k h a b) where
  pub inside_tall : 0 < h
  inside_tall = rw r.height_is (tall_node (word_at t) W.settings W.nodes W.holds.ordered k p W.inside)

  pub high_lower : Lower (word_at t) k a
  high_lower = subst (Lower (word_at t) k) (sym r.then_is) (side_lower (word_at t) W.settings W.nodes W.holds.ordered true k p W.inside)

  pub low_lower : Lower (word_at t) k b
  low_lower = subst (Lower (word_at t) k) (sym r.else_is) (side_lower (word_at t) W.settings W.nodes W.holds.ordered false k p W.inside)
