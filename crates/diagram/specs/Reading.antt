-- What the functions that read and count a table answer, and what they need: for inner contracts only. Assumes nothing.
use Rattle.std.specs.Prelude.{ℕ, zero, suc, ◌+◌, ◌-◌, ◌*◌, ◌/◌, ◌%◌, ◌^◌, ◌≤◌, Bool, cond, ltb, ◌≡◌, List}
use Rattle.diagram.specs.Format.{Words, high_field, middle_field, low_field, settings, nodes, root, height, then_edge, else_edge}
use Rattle.diagram.specs.Meaning.{plain}
use Rattle.diagram.specs.Count.{count_below}
use Rattle.diagram.specs.Ordered.{HasDiagram}

-- the three fields of word v
pub record HasFields (v h t e : ℕ) : Type 0 where
  pub high_is : h ≡ high_field v
  pub middle_is : t ≡ middle_field v
  pub low_is : e ≡ low_field v
  pub high_fits : h ≤ 63

-- the header's fields
pub record IsHeader (w : Words) (n N e : ℕ) : Type 0 where
  pub settings_is : n ≡ settings w
  pub nodes_is : N ≡ nodes w
  pub root_is : e ≡ root w
  pub few_settings : n ≤ 63

-- the fields of record k
pub record IsRecord (w : Words) (k h t e : ℕ) : Type 0 where
  pub height_is : h ≡ height w k
  pub then_is : t ≡ then_edge w k
  pub else_is : e ≡ else_edge w k
  pub low : h ≤ 63

-- node k lies in an ordered diagram that the bytes hold
pub record Within (bytes : List ℕ) (k : ℕ) : Type 0 where
  pub settings : ℕ
  pub nodes : ℕ
  pub holds : HasDiagram bytes settings nodes
  pub inside : k ≤ nodes

-- c of m, or the m - c others if the flag is set
unfoldable pub opposite : ℕ → ℕ → ℕ → ℕ
opposite zero m c = c
opposite (suc f) m c = m - c

-- a node's share of 2 ^ 63: how many setups of 63 settings are permitted under a plain edge to node k
unfoldable pub share : Words → ℕ → ℕ
share w k = count_below (plain w k) (2 ^ 63)

-- an edge of node k by its side: the then-edge (on), or the else-edge
abbrev pub side : Words → Bool → ℕ → ℕ
side w on k = cond on (then_edge w k) (else_edge w k)

-- edge e, or its complement if f is set
unfoldable pub turn : ℕ → ℕ → ℕ
turn zero e = e
turn (suc f) e = 2 * (e / 2) + (1 - e % 2)

-- a word of its three fields
unfoldable pub record_of : ℕ → ℕ → ℕ → ℕ
record_of h t e = h * 2 ^ 58 + t * 2 ^ 29 + e

-- edge e as it goes on where the setting of height h is on or off (a cofactor): the node's own edge of that side, or e itself if the node lies lower
unfoldable pub cofactor : Words → ℕ → Bool → ℕ → ℕ
cofactor w h on e = cond (ltb (height w (e / 2)) h) e (turn (e % 2) (side w on (e / 2)))
