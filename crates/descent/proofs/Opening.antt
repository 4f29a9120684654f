-- Edges as the descent follows them: what the code may read and count. Assumes nothing.
use Prim.Native.Nat.{ℕ, ◌+◌, ◌-◌, ◌*◌, ◌/◌, ◌≤◌, ◌<◌}
use mathlib.Core.Path.{◌≡◌}
use mathlib.Core.Bool.{Bool}
use mathlib.Core.List.{List}
use native.Mathlib.Omega.{arith}
use lib.ListN.{length}
use Rattle.words.specs.Words.{word_at}
use Rattle.diagram.specs.Format.{height}
use Rattle.diagram.specs.Reading.{Within, cofactor}
use Rattle.diagram.proofs.Cofactor.{no_sink, cofactor_low}
use Rattle.diagram.proofs.Inside.{within_room}
use Rattle.counting.specs.Inner.{Opens}
use Rattle.counting.proofs.Shares.{filled_below}

-- a node as high as the setting asked for is not the sink, and has its record
pub high_node : (t : List ℕ) (e h v g : ℕ) → Within t (e / 2) → 0 < h → v ≡ e / 2 → g ≡ height (word_at t) v → h ≤ g → (0 < v) × (8 * v + 8 ≤ length t)
high_node t e h v g W l v-is g-is q = (no_sink (word_at t) v (omega (arith, g-is)), rw v-is (within_room t (e / 2) W))

-- a cofactor can be followed and counted too
pub cofactor_opens : (t s : List ℕ) (e h z : ℕ) (b : Bool) → Opens t s e h → 0 < h → z ≡ cofactor (word_at t) h b e → Opens t s z (h - 1)
cofactor_opens t s e h z b O l z-is =
    let F = O.filled in
    let W = F.within in
    let o = cofactor_low (word_at t) W.settings W.nodes W.holds.ordered e h W.inside O.low l b in
    rw z-is (record {
      filled = filled_below t s (e / 2) F (cofactor (word_at t) h b e / 2) o.0;
      low = omega (arith, o.1);
      few = omega (arith, O.few);
    })
