-- Writing the table of a diagram whose nodes lie in a sheet in any order: for inner contracts only. Assumes nothing.
use Rattle.std.specs.Prelude.{ℕ, suc, ◌*◌, ◌/◌, ◌%◌, ◌≤◌, ◌<◌, ◌≡◌, Bool, List, length}
use Rattle.std.proofs.Math.Option.{some}
use Rattle.words.specs.Words.{word_at}
use Rattle.diagram.specs.Meaning.{flip}
use Rattle.diagram.specs.Answer.{Answer}
use Rattle.tables.specs.Table.{node_count}
use Rattle.tables.specs.Inner.{Writes}
use Rattle.reducing.specs.Levels.{Named, Means}
use Rattle.reducing.specs.Inner.{height_of, edge_of, result_of, HoldsNodes}

-- the sheet's first 4 P words hold a diagram of M nodes and n settings; `top` leads to all nodes above height 0
pub record HoldsDiagram (sheet : List ℕ) (P n M top : ℕ) : Type 0 where
  pub long : 32 * P ≤ length sheet
  pub few_settings : n ≤ 63
  pub nodes : HoldsNodes (word_at sheet) P n M
  pub inside : top < M
  pub named : Named (height_of (word_at sheet) P) (edge_of (word_at sheet) P) M top

-- what edge e permits, where node i permits F i
unfoldable pub along : (ℕ → ℕ → Bool) → ℕ → ℕ → Bool
along F e x = flip (e % 2) (F (e / 2) x)

-- whatever node i permits, F i: the table of what the root edge permits is written, or refused; and of at most 65,536 nodes of which the first is a sink there is one, with fewer records than nodes
pub record WritesRoot (W : ℕ → ℕ) (P n M root : ℕ) (out : List ℕ) (answer : Answer ℕ) (out' : List ℕ) : Type 0 where
  pub writes : (F : ℕ → ℕ → Bool) → Means (height_of W P) (edge_of W P) (result_of W P) F M → Writes n (along F root) out answer out'
  pub counts : (F : ℕ → ℕ → Bool) → Means (height_of W P) (edge_of W P) (result_of W P) F M → height_of W P 0 ≡ 0 → M ≤ 65536 → (c : ℕ) × (c < M) × (node_count n (along F root) ≡ some c)

-- a header, and the first c words of W behind it
pub record HoldsTable (W : ℕ → ℕ) (c header : ℕ) (out : List ℕ) : Type 0 where
  pub first : word_at out 0 ≡ header
  pub records : (k : ℕ) → k < c → word_at out (suc k) ≡ W k
