-- Cutting a diagram at a bound: the nodes that a cut adds behind a table's. For inner contracts only. Assumes nothing.
use Rattle.std.specs.Prelude.{ℕ, zero, suc, ◌+◌, ◌-◌, ◌*◌, ◌≤◌, ◌<◌, ◌≡◌, Bool, not, cond, List, eqb, leb, length, get_or}
use Rattle.std.specs.Bool.{beq}
use Rattle.diagram.specs.Format.{Words, height}
use Rattle.diagram.specs.Meaning.{bit}
use Rattle.diagram.specs.Ordered.{Ordered, Reduced}
use Rattle.diagram.specs.Reading.{cofactor, record_of}

-- the words of a table of N nodes, and behind them those of a list, from its place 1 on
unfoldable pub extended : Words → ℕ → List ℕ → Words
extended w N more k = cond (leb k N) (w k) (get_or more (k - N) 0)

-- the edge to which the upper d of n settings of a bound lead from edge r
unfoldable pub follow : Words → ℕ → ℕ → ℕ → ℕ → ℕ
follow w n bound r zero = r
follow w n bound r (suc d) = cofactor w (n - d) (bit (n - d) bound) (follow w n bound r d)

-- a cut of n settings at a bound below edge r adds nodes B + 1 to B + n, node B + h of height h: the edge to what is left of the lower h settings
unfoldable pub cut_edge : Words → ℕ → ℕ → ℕ → ℕ → ℕ → ℕ
cut_edge w B n bound r h = cond (eqb h 0) (follow w n bound r n) (2 * (B + h))

-- ... the edge for the setting that the bound does not have: all of it, or nothing
unfoldable pub cut_other : Words → ℕ → ℕ → Bool → ℕ → ℕ → ℕ
cut_other w n bound lower r h = cond (beq (bit h bound) lower) 1 (cofactor w h (not (bit h bound)) (follow w n bound r (n - h)))

-- ... and the record of node B + h. `lower` keeps what is not below the bound, or else what is not above it
unfoldable pub cut_record : Words → ℕ → ℕ → ℕ → Bool → ℕ → ℕ → ℕ
cut_record w B n bound lower r h =
    cond (bit h bound) (record_of h (cut_edge w B n bound r (h - 1)) (cut_other w n bound lower r h))
    (record_of h (cut_other w n bound lower r h) (cut_edge w B n bound r (h - 1)))

-- a step of a cut at height h, where the bound leads to edge p: the node's word, and the edge by which the bound goes on
pub record IsStep (w : Words) (B bound : ℕ) (lower : Bool) (h p word next : ℕ) : Type 0 where
  pub word_is : word ≡ cut_record w B h bound lower p h
  pub next_is : next ≡ cofactor w h (bit h bound) p

-- w' is w with the nodes of a cut
pub record Cut (w : Words) (n B bound r : ℕ) (lower : Bool) (w' : Words) : Type 0 where
  pub as_before : (k : ℕ) → k ≤ B → w' k ≡ w k
  pub records : (h : ℕ) → 0 < h → h ≤ n → w' (B + h) ≡ cut_record w B n bound lower r h

-- a table of N nodes, then n nodes of heights 1 to n, and then n more
pub record TwiceCut (R : Words) (n N : ℕ) : Type 0 where
  pub ordered : Ordered R n (N + n + n)
  pub table : Reduced R n N
  pub first : (v : ℕ) → N < v → v ≤ N + n → height R v ≡ v - N
  pub second : (v : ℕ) → N + n < v → v ≤ N + n + n → height R v ≡ v - (N + n)

-- there is room for the words of a table of N nodes, and for a map of these and of two cuts
pub record Room (table map : List ℕ) (n N : ℕ) : Type 0 where
  pub table_long : 8 * N + 8 ≤ length table
  pub map_long : 8 * (N + n + n) + 8 ≤ length map
  pub few_settings : n ≤ 63
  pub few_nodes : N ≤ 65535
