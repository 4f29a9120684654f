-- A table written from a loose one: for inner contracts only. Assumes nothing.
use Rattle.std.specs.Prelude.{ℕ, ◌≤◌, ◌<◌, ◌≡◌, Bool, List}
use Rattle.std.proofs.Math.Option.{some}
use Rattle.words.specs.Words.{word_at}
use Rattle.diagram.specs.Answer.{Answer}
use Rattle.tables.specs.Table.{node_count}
use Rattle.tables.specs.Inner.{Writes}

-- the table of the setups that pass Q is written into the out memory, or refused; there is one, with no more than N nodes
pub record Tightens (n N : ℕ) (Q : ℕ → Bool) (out : List ℕ) (answer : Answer ℕ) (out' : List ℕ) : Type 0 where
  pub writes : Writes n Q out answer out'
  pub not_more : (N' : ℕ) × (N' ≤ N) × (node_count n Q ≡ some N')

-- the first m words of the out memory are the table's
abbrev pub Copied : List ℕ → List ℕ → ℕ → Type 0
Copied table out m = (k : ℕ) → k < m → word_at out k ≡ word_at table k
