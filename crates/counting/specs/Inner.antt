-- What the functions that fill the sheet and count by it know of it: for inner contracts only. Assumes nothing.
use Rattle.std.specs.Prelude.{ℕ, ◌+◌, ◌-◌, ◌*◌, ◌/◌, ◌%◌, ◌^◌, ◌≤◌, ◌≡◌, List, length}
use Rattle.words.specs.Words.{word_at}
use Rattle.words.specs.Swap.{swap}
use Rattle.diagram.specs.Format.{Words, height, then_edge}
use Rattle.diagram.specs.Meaning.{under}
use Rattle.diagram.specs.Count.{count_below}
use Rattle.diagram.specs.Ordered.{Reduced, HasDiagram}
use Rattle.diagram.specs.Reading.{Within, share}

-- a node's share as its place holds it: least significant byte first
unfoldable pub stored : Words → ℕ → ℕ
stored w k = swap (share w k)

-- node k lies in the table, it has a place in the sheet, and the places of nodes 0 to k hold their shares
pub record Filled (table sheet : List ℕ) (k : ℕ) : Type 0 where
  pub within : Within table k
  pub room : 8 * k + 8 ≤ length sheet
  pub shares : (j : ℕ) → j ≤ k → word_at sheet j ≡ stored (word_at table) j

-- the places below node k hold their shares, its then-edge is plain, and it has a place
pub record Next (table sheet : List ℕ) (k : ℕ) : Type 0 where
  pub within : Within table k
  pub plain : then_edge (word_at table) k % 2 ≡ 0
  pub room : 8 * k + 8 ≤ length sheet
  pub below : Filled table sheet (k - 1)

-- edge e, from height h down, can be counted: the places of its node and of those below are filled
pub record Opens (table sheet : List ℕ) (e h : ℕ) : Type 0 where
  pub filled : Filled table sheet (e / 2)
  pub low : height (word_at table) (e / 2) ≤ h
  pub few : h ≤ 63

-- ... in some table
abbrev pub Opened : List ℕ → ℕ → ℕ → Type 0
Opened sheet e h = (table : List ℕ) × Opens table sheet e h

-- c setups of h settings are permitted under edge e, in whichever table it can be counted
abbrev pub CountsUnder : List ℕ → ℕ → ℕ → ℕ → Type 0
CountsUnder sheet e h c = (table : List ℕ) → Opens table sheet e h → c ≡ count_below (under (word_at table) e) (2 ^ h)

-- a table holds a reduced diagram of n settings and N nodes, edge e leads to one of them, and the sheet has a place for each
pub record Countable (table sheet : List ℕ) (n N e : ℕ) : Type 0 where
  pub holds : HasDiagram table n N
  pub reduced : Reduced (word_at table) n N
  pub inside : e / 2 ≤ N
  pub room : 8 * (N + 1) ≤ length sheet
