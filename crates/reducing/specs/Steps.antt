-- What is known while the nodes are numbered, height by height: for inner contracts only. Assumes nothing.
use Rattle.std.specs.Prelude.{ℕ, zero, suc, ◌+◌, ◌-◌, ◌*◌, ◌/◌, ◌≤◌, ◌<◌, ◌≡◌, Bool, true, false, cond, List, eqb, leb, length, get_or}
use Rattle.diagram.specs.Count.{count_below}
use Rattle.numbering.specs.Renewal.{normal}
use Rattle.numbering.specs.Numbered.{Good}
use Rattle.sorting.specs.Sorting.{Strict, Among}
use Rattle.reducing.specs.Levels.{Loose, through, Levelled}
use Rattle.reducing.specs.Inner.{edge_of, result_of, records_of}
use Rattle.carrying.specs.Words.{sort_word}

-- some nodes: their heights, at most `top`, and their edges
pub record Nodes : Type 0 where
  pub height : ℕ → ℕ
  pub edge : Bool → ℕ → ℕ
  pub top : ℕ
  pub count : ℕ

-- how many nodes below i have height h
abbrev pub count_of : Nodes → ℕ → ℕ → ℕ
count_of D h i = count_below (λ j. eqb (D.height j) h) i

-- 1 + the last node below i of height h, or 0
unfoldable pub last_of : (ℕ → ℕ) → ℕ → ℕ → ℕ
last_of g h zero = 0
last_of g h (suc i) = cond (eqb (g i) h) (suc i) (last_of g h i)

-- the first i nodes, of heights g, are in a list for each height: it begins at heads[h], and word 2 P + j leads from node j to the one before it; other words stay
pub record Linked (g W W' : ℕ → ℕ) (heads : List ℕ) (P i : ℕ) : Type 0 where
  pub heads_long : length heads ≡ 64
  pub begins : (h : ℕ) → h ≤ 63 → get_or heads h 0 ≡ last_of g h i
  pub links : (j : ℕ) → j < i → W' (2 * P + j) ≡ last_of g (g j) j
  pub others : (j : ℕ) → (2 * P ≤ j → 2 * P + i ≤ j) → W' j ≡ W j

-- the heights of the first M nodes are at most 63
abbrev pub Low : (ℕ → ℕ) → ℕ → Type 0
Low g M = (i : ℕ) → i < M → g i ≤ 63

-- the nodes up to height h are numbered, with c records; the higher ones wait, and the lists stand
pub record Staged (D : Nodes) (W : ℕ → ℕ) (P c h : ℕ) : Type 0 where
  pub few : D.count ≤ P
  pub loose : Loose D.height D.edge D.top D.count
  pub levelled : Levelled D.height D.edge (result_of W P) (records_of W) D.count c h
  pub room : c ≤ count_below (λ i. leb (D.height i) h) D.count
  pub flags : (i : ℕ) → i < D.count → D.height i ≡ 0 → W (P + i) ≡ D.edge true i
  pub waits : (b : Bool) (i : ℕ) → i < D.count → h < D.height i → edge_of W P b i ≡ D.edge b i
  pub links : (i : ℕ) → i < D.count → W (2 * P + i) ≡ last_of D.height (D.height i) i

-- the next height is h; the list of its nodes begins at `first`; and the nodes are few, if so said
pub record Ready (few : Bool) (D : Nodes) (W : ℕ → ℕ) (P c h first : ℕ) : Type 0 where
  pub some : 0 < h
  pub low : h ≤ 63
  pub small : c ≤ 65535
  pub staged : Staged D W P c (h - 1)
  pub begins : first ≡ last_of D.height h D.count
  pub count_low : few ≡ true → D.count ≤ 65536

-- the edges of node i lead to nodes that have become edges to records up to 65,535
abbrev pub Leads : (ℕ → ℕ) → ℕ → ℕ → Type 0
Leads W P i = (b : Bool) → (edge_of W P b i / 2 < P) × (W (P + edge_of W P b i / 2) < 131072)

-- the edges of node i stand as what they become, and the node's word is stored at `end`
pub record Renewed (few : Bool) (W W' : ℕ → ℕ) (P i h end : ℕ) : Type 0 where
  pub sides : (b : Bool) → edge_of W' P b i ≡ through (result_of W P) (edge_of W P b i)
  pub made : W' end ≡ sort_word few h (W' (P + i)) (W' (3 * P + i)) i
  pub others : (j : ℕ) → (j ≡ P + i → ⊥) → (j ≡ 3 * P + i → ⊥) → (j ≡ end → ⊥) → W' j ≡ W j

-- what an edge of node i becomes, and the word of the node
abbrev pub side_of : Nodes → (ℕ → ℕ) → ℕ → Bool → ℕ → ℕ
side_of D W P b i = through (result_of W P) (D.edge b i)

abbrev pub word_of : Bool → Nodes → (ℕ → ℕ) → ℕ → ℕ → ℕ → ℕ
word_of few D W P h i = sort_word few h (side_of D W P true i) (side_of D W P false i) i

-- `next` is 1 + a node of height h, or 0
pub record Cursor (D : Nodes) (h next : ℕ) : Type 0 where
  pub bound : next ≤ D.count
  pub at : 0 < next → D.height (next - 1) ≡ h

-- x is the word of a node of height h whose edges become different ones
pub record Candidate (few : Bool) (D : Nodes) (W : ℕ → ℕ) (P h x : ℕ) : Type 0 where
  pub node : ℕ
  pub inside : node < D.count
  pub level : D.height node ≡ h
  pub apart : side_of D W P true node ≡ side_of D W P false node → ⊥
  pub is : x ≡ word_of few D W P h node

-- the nodes of height h from `next` on stand with what their edges become, and the words c to end - 1 are those of the ones whose edges differ
pub record Collected (few : Bool) (D : Nodes) (W W' : ℕ → ℕ) (P c h end next : ℕ) : Type 0 where
  pub cursor : Cursor D h next
  pub up : c ≤ end
  pub room : end + count_of D h next ≤ c + count_of D h D.count
  pub before : (j : ℕ) → j < c → W' j ≡ W j
  pub links : (j : ℕ) → j < P → W' (2 * P + j) ≡ W (2 * P + j)
  pub kept : (b : Bool) (j : ℕ) → j < D.count → (D.height j ≡ h → j < next) → edge_of W' P b j ≡ edge_of W P b j
  pub sides : (b : Bool) (i : ℕ) → i < D.count → next ≤ i → D.height i ≡ h → edge_of W' P b i ≡ side_of D W P b i
  pub made : (i : ℕ) → i < D.count → next ≤ i → D.height i ≡ h → (side_of D W P true i ≡ side_of D W P false i → ⊥) → Among W' c end (word_of few D W P h i)
  pub came : (k : ℕ) → c ≤ k → k < end → Candidate few D W P h (W' k)

-- the same for whatever nodes the sheet held
abbrev pub Collects : Bool → (ℕ → ℕ) → (ℕ → ℕ) → ℕ → ℕ → ℕ → ℕ → ℕ → ℕ → Type 0
Collects few W W' P c h first end next = (D : Nodes) → Ready few D W P c h first → Collected few D W W' P c h end next

-- node i has edges that fit, and if they differ their word is one of the strictly ascending words c to end - 1
pub record Findable (W : ℕ → ℕ) (P c end h i : ℕ) : Type 0 where
  pub strict : Strict W c end
  pub small : (b : Bool) → edge_of W P b i < 131072
  pub there : (W (P + i) ≡ W (3 * P + i) → ⊥) → Among W c end (normal h (W (P + i)) (W (3 * P + i)))

-- so have all nodes of height h, whose list begins at `first`
pub record Countable (D : Nodes) (W : ℕ → ℕ) (P c end h first : ℕ) : Type 0 where
  pub few : D.count ≤ P
  pub low : h ≤ 63
  pub to : end ≤ P
  pub nodes : (i : ℕ) → i < D.count → D.height i ≡ h → Findable W P c end h i
  pub links : (i : ℕ) → i < D.count → W (2 * P + i) ≡ last_of D.height (D.height i) i
  pub begins : first ≡ last_of D.height h D.count

-- the nodes of height h from `next` on are numbered
pub record Counted (D : Nodes) (W W' : ℕ → ℕ) (P end h next : ℕ) : Type 0 where
  pub cursor : Cursor D h next
  pub before : (j : ℕ) → j < P → W' j ≡ W j
  pub behind : (j : ℕ) → 2 * P ≤ j → W' j ≡ W j
  pub kept : (j : ℕ) → j < D.count → (D.height j ≡ h → j < next) → W' (P + j) ≡ W (P + j)
  pub given : (i : ℕ) → i < D.count → next ≤ i → D.height i ≡ h → Good h (W (P + i)) (W (3 * P + i)) (suc (W' (P + i))) (records_of W) end

-- the same for whatever nodes the sheet held
abbrev pub Counts : (ℕ → ℕ) → (ℕ → ℕ) → ℕ → ℕ → ℕ → ℕ → ℕ → ℕ → Type 0
Counts W W' P c end h first next = (D : Nodes) → Countable D W P c end h first → Counted D W W' P end h next

-- one height more is numbered, for whatever nodes the sheet held
abbrev pub Raises : Bool → (ℕ → ℕ) → (ℕ → ℕ) → ℕ → ℕ → ℕ → ℕ → ℕ → Type 0
Raises few W W' P c h first c' = (D : Nodes) → Ready few D W P c h first → Staged D W' P c' h
