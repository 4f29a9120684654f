-- A diagram whose nodes stand in any order, and what it becomes while its nodes are numbered height by height: for inner contracts only. Assumes nothing.
use Rattle.std.specs.Prelude.{ℕ, suc, ◌+◌, ◌*◌, ◌/◌, ◌%◌, ◌≤◌, ◌<◌, ◌≡◌, Bool, true, false}
use Rattle.diagram.specs.Format.{Words}
use Rattle.diagram.specs.Meaning.{bit, flip}
use Rattle.diagram.specs.Reading.{turn}
use Rattle.numbering.specs.Renewal.{normal}
use Rattle.numbering.specs.Numbered.{Good}

-- M nodes in any order: node i has height g i, at most n, and above height 0 two edges (2 × node + flag) to lower nodes
pub record Loose (g : ℕ → ℕ) (E : Bool → ℕ → ℕ) (n M : ℕ) : Type 0 where
  pub low : (i : ℕ) → i < M → g i ≤ n
  pub inside : (b : Bool) (i : ℕ) → i < M → 0 < g i → E b i / 2 < M
  pub lower : (b : Bool) (i : ℕ) → i < M → 0 < g i → g (E b i / 2) < g i

-- every node above height 0 but `top` is named by an edge of a node
abbrev pub Named : (ℕ → ℕ) → (Bool → ℕ → ℕ) → ℕ → ℕ → Type 0
Named g E M top = (i : ℕ) → i < M → 0 < g i → (i ≡ top → ⊥) → (j : ℕ) × (b : Bool) × (j < M) × (0 < g j) × (E b j / 2 ≡ i)

-- F i says which setups node i permits: all or none at height 0, by the flag s i; or else what the edge permits that the setup takes
pub record Means (g : ℕ → ℕ) (E : Bool → ℕ → ℕ) (s : ℕ → ℕ) (F : ℕ → ℕ → Bool) (M : ℕ) : Type 0 where
  pub sink : (i : ℕ) → i < M → g i ≡ 0 → (x : ℕ) → F i x ≡ flip (s i) true
  pub step : (i : ℕ) → i < M → 0 < g i → (x : ℕ) → F i x ≡ flip (E (bit (g i) x) i % 2) (F (E (bit (g i) x) i / 2) x)

-- what edge e becomes, where node v becomes edge r v
unfoldable pub through : (ℕ → ℕ) → ℕ → ℕ
through r e = turn (e % 2) (r (e / 2))

-- `node` is why there is a record k + 1
pub record Origin (g : ℕ → ℕ) (E : Bool → ℕ → ℕ) (r : ℕ → ℕ) (L : Words) (M h k : ℕ) : Type 0 where
  pub node : ℕ
  pub inside : node < M
  pub tall : 0 < g node
  pub low : g node ≤ h
  pub apart : through r (E true node) ≡ through r (E false node) → ⊥
  pub number : r node ≡ 2 * suc k + through r (E true node) % 2
  pub makes : L (suc k) ≡ normal (g node) (through r (E true node)) (through r (E false node))

-- the nodes up to height h are numbered: the records L 1 to L c are theirs, in ascending order, each once; r says what a node becomes, and those below height h become edges to records up to 65,535
pub record Levelled (g : ℕ → ℕ) (E : Bool → ℕ → ℕ) (r : ℕ → ℕ) (L : Words) (M c h : ℕ) : Type 0 where
  pub base : L 0 ≡ 0
  pub sinks : (i : ℕ) → i < M → g i ≡ 0 → r i < 2
  pub small : (i : ℕ) → i < M → g i < h → r i < 131072
  pub good : (i : ℕ) → i < M → 0 < g i → g i ≤ h → Good (g i) (through r (E true i)) (through r (E false i)) (suc (r i)) L c
  pub rises : (k : ℕ) → k < c → L k < L (suc k)
  pub origin : (k : ℕ) → k < c → Origin g E r L M h k
