-- A table with the nodes of cuts behind it, as the code holds it: what contracts say of it. For inner contracts only. Assumes nothing.
use Rattle.std.specs.Prelude.{ℕ, ◌+◌, ◌*◌, ◌≤◌, ◌≡◌, List, length}
use Rattle.words.specs.Words.{word_at}
use Rattle.diagram.specs.Format.{Words}
use Rattle.cutting.specs.Cut.{extended}
use Rattle.cutting.specs.declared.Extended.{Extended}

-- its words
abbrev pub words_of : Extended → Words
words_of d = extended (word_at d.table.now) d.nodes d.more

-- its last node: each cut has a node for each setting
abbrev pub last_of : Extended → ℕ
last_of d = d.nodes + d.n + d.n

-- a map has a place for each of its nodes
abbrev pub Fits : List ℕ → Extended → Type 0
Fits map d = 8 * last_of d + 8 ≤ length map

-- d' has the table of d
pub record SameTable (d d' : Extended) : Type 0 where
  pub table_is : d'.table.now ≡ d.table.now
  pub settings_are : d'.n ≡ d.n
  pub nodes_are : d'.nodes ≡ d.nodes
