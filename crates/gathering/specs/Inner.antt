-- The nodes of a loose table as they lie in a sheet of four regions of P places, with their own numbers: for inner contracts only. Assumes nothing.
use Rattle.std.specs.Prelude.{ℕ, suc, ◌+◌, ◌*◌, ◌/◌, ◌≤◌, ◌<◌, ◌≡◌, ◌⊎◌, Bool, cond, List, length, get_or}
use Rattle.words.specs.Words.{word_at}
use Rattle.diagram.specs.Format.{Words, height, then_edge, else_edge}
use Rattle.diagram.specs.Ordered.{LooseRecords}
use Rattle.diagram.specs.Reading.{side}

-- node v lies in a loose diagram that the bytes hold; a region has a place for each of its nodes
pub record LooseWithin (bytes : List ℕ) (P v : ℕ) : Type 0 where
  pub settings : ℕ
  pub nodes : ℕ
  pub long : 8 * nodes + 8 ≤ length bytes
  pub records : LooseRecords (word_at bytes) settings nodes
  pub places : P ≡ suc nodes
  pub inside : v ≤ nodes

-- the height of node v, if it lies in the sheet, or 0
abbrev pub laid : (ℕ → ℕ) → ℕ → ℕ → ℕ
laid W P v = W (2 * P + v)

-- node v is named by an edge of a node that lies in the sheet
abbrev pub NamedBy : Words → (ℕ → ℕ) → ℕ → ℕ → Type 0
NamedBy w W P v = (j : ℕ) × (b : Bool) × (j < P) × (0 < laid W P j) × (side w b j / 2 ≡ v)

-- nodes of the diagram w lie in the sheet, with all that they lead to; the places of the others, and of the sink, are zero
pub record Gathered (w : Words) (W : ℕ → ℕ) (P : ℕ) : Type 0 where
  pub sink : laid W P 0 ≡ 0
  pub free : (v : ℕ) → v < P → laid W P v ≡ 0 → W (P + v) ≡ 0
  pub height_is : (v : ℕ) → v < P → 0 < laid W P v → laid W P v ≡ height w v
  pub edge_is : (b : Bool) (v : ℕ) → v < P → 0 < laid W P v → cond b (W (P + v)) (W (3 * P + v)) ≡ side w b v
  pub inside : (b : Bool) (v : ℕ) → v < P → 0 < laid W P v → side w b v / 2 < P
  pub closed : (b : Bool) (v : ℕ) → v < P → 0 < laid W P v → 0 < side w b v / 2 → 0 < laid W P (side w b v / 2)

-- node v and what it leads to lie there, and nothing else
pub record Reached (w : Words) (W : ℕ → ℕ) (P v : ℕ) : Type 0 where
  pub gathered : Gathered w W P
  pub here : 0 < v → 0 < laid W P v
  pub named : (u : ℕ) → u < P → 0 < laid W P u → (u ≡ v → ⊥) → NamedBy w W P u

-- the mark of node v: a byte behind the regions
abbrev pub mark : List ℕ → ℕ → ℕ → ℕ
mark sheet P v = get_or sheet (32 * P + v) 0

-- no node has a mark
abbrev pub NoMarks : List ℕ → ℕ → Type 0
NoMarks sheet P = (v : ℕ) → v < P → mark sheet P v ≡ 0

-- node v has a mark now, and is word `count`; r is one more if it had none
pub record Meets (s s' : List ℕ) (P count v r : ℕ) : Type 0 where
  pub long : length s' ≡ length s
  pub here : word_at s' count ≡ v
  pub others : (k : ℕ) → k < P → (k ≡ count → ⊥) → word_at s' k ≡ word_at s k
  pub marked : mark s' P v ≡ 1
  pub marks : (u : ℕ) → u < P → (u ≡ v → ⊥) → mark s' P u ≡ mark s P u
  pub counts : r + mark s P v ≡ count + 1

-- words 0 to count - 1 are the nodes met from `root` on, each once; these and the sink have marks, and no other; what the first i of them lead to is met
pub record Met (w : Words) (s : List ℕ) (P i count root : ℕ) : Type 0 where
  pub up : i ≤ count
  pub sink : mark s P 0 ≡ 1
  pub bits : (v : ℕ) → v < P → mark s P v ≤ 1
  pub listed : (v : ℕ) → v < P → 0 < v → mark s P v ≡ 1 → (k : ℕ) × (k < count) × (word_at s k ≡ v)
  pub nodes : (k : ℕ) → k < count → (0 < word_at s k) × (word_at s k < P) × (mark s P (word_at s k) ≡ 1)
  pub once : (j k : ℕ) → j < count → k < count → word_at s j ≡ word_at s k → j ≡ k
  pub closed : (b : Bool) (k : ℕ) → k < i → (side w b (word_at s k) / 2 < P) × (mark s P (side w b (word_at s k) / 2) ≡ 1)
  pub named : (k : ℕ) → k < count → (word_at s k ≡ root → ⊥) → (j : ℕ) × (b : Bool) × (j < count) × (side w b (word_at s j) / 2 ≡ word_at s k)

-- all that `root` leads to is met
pub record AllMet (w : Words) (s : List ℕ) (P root : ℕ) : Type 0 where
  pub count : ℕ
  pub met : Met w s P count count root
  pub root_met : mark s P root ≡ 1

-- the fields of node v as it is laid: its record's if it has a mark, or zeros
pub record IsNode (w : Words) (s : List ℕ) (P v h t e : ℕ) : Type 0 where
  pub none : (v ≡ 0) ⊎ (mark s P v ≡ 0) → (h ≡ 0) × (t ≡ 0) × (e ≡ 0)
  pub some : 0 < v → 0 < mark s P v → (h ≡ height w v) × (t ≡ then_edge w v) × (e ≡ else_edge w v)

-- the marks are as before
abbrev pub MarksStay : List ℕ → List ℕ → ℕ → Type 0
MarksStay s s' P = (u : ℕ) → mark s' P u ≡ mark s P u

-- the nodes below i are laid by the marks in s
pub record AllLaid (w : Words) (s s' : List ℕ) (P i : ℕ) : Type 0 where
  pub long : length s' ≡ length s
  pub marks : MarksStay s s' P
  pub nodes : (v : ℕ) → v < i → IsNode w s P v (word_at s' (2 * P + v)) (word_at s' (P + v)) (word_at s' (3 * P + v))

-- the height and the edges of node v are stored
pub record Laid (W W' : ℕ → ℕ) (P v h t e : ℕ) : Type 0 where
  pub height_put : W' (2 * P + v) ≡ h
  pub then_put : W' (P + v) ≡ t
  pub else_put : W' (3 * P + v) ≡ e
  pub others : (k : ℕ) → (k ≡ P + v → ⊥) → (k ≡ 2 * P + v → ⊥) → (k ≡ 3 * P + v → ⊥) → W' k ≡ W k
