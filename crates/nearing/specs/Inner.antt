-- The distances in the sheet, and what the functions that enter and follow them know: for inner contracts only. Assumes nothing.
use Rattle.std.specs.Prelude.{ℕ, ◌+◌, ◌-◌, ◌*◌, ◌/◌, ◌^◌, ◌≤◌, ◌<◌, ◌≡◌, ◌≢◌, cond, List, ltb, length, get_or}
use Rattle.words.specs.Words.{word_at}
use Rattle.diagram.specs.Format.{Words, height}
use Rattle.diagram.specs.Meaning.{under}
use Rattle.diagram.specs.Ordered.{Reduced, HasDiagram}
use Rattle.walking.specs.Inner.{LiesIn}
use Rattle.distances.specs.Inner.{Apart, Reached}

-- the lesser of two costs
unfoldable pub lesser : ℕ → ℕ → ℕ
lesser off on = cond (ltb on off) on off

-- the sheet has a byte of at most 64 for either side of an edge
pub record HasBytes (sheet : List ℕ) (high low : ℕ) : Type 0 where
  pub high_in : high < length sheet
  pub low_in : low < length sheet
  pub high_small : get_or sheet high 0 ≤ 64
  pub low_small : get_or sheet low 0 ≤ 64

-- d is the distance under edge e: what e permits differs from x in d or more of its node's settings, and something in no more; or e is `never`
pub record IsFar (w : Words) (x e d : ℕ) : Type 0 where
  pub apart : Apart (under w e) (height w (e / 2)) x d
  pub reached : e ≢ 1 → Reached (under w e) (height w (e / 2)) x d
  pub never : e ≡ 1 → d ≡ 64

-- the sheet has the distances under the edges to nodes 0 to k
pub record Filled (table sheet : List ℕ) (x k : ℕ) : Type 0 where
  pub room : 2 * k + 2 ≤ length sheet
  pub far : (e : ℕ) → e / 2 ≤ k → IsFar (word_at table) x e (get_or sheet e 0)

-- ... to the nodes before node k, which lies in a reduced diagram and has room
pub record Next (table sheet : List ℕ) (x k : ℕ) : Type 0 where
  pub some : 0 < k
  pub lies : LiesIn table (2 * k)
  pub room : 2 * k + 2 ≤ length sheet
  pub below : Filled table sheet x (k - 1)

-- a table holds a reduced diagram of n settings and N nodes, and the sheet has room for the distances
pub record Fillable (table sheet : List ℕ) (n N : ℕ) : Type 0 where
  pub holds : HasDiagram table n N
  pub reduced : Reduced (word_at table) n N
  pub room : 2 * N + 2 ≤ length sheet

-- edge e, which is not `never`, lies in a reduced diagram, and its distance and those below it are in the sheet
pub record Opens (table sheet : List ℕ) (e x : ℕ) : Type 0 where
  pub lies : LiesIn table e
  pub filled : Filled table sheet x (e / 2)
  pub not_never : e ≢ 1
  pub small : x < 2 ^ 63
