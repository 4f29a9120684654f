-- The rules of a loose table as facts about words, one field each: for inner contracts only. Shown equivalent to the rules in proofs/Loosely. Assumes nothing.
use Rattle.std.specs.Prelude.{ℕ, ◌+◌, ◌*◌, ◌/◌, ◌≤◌, ◌≡◌, List, length}
use Rattle.words.specs.Words.{word_at}
use Rattle.diagram.specs.Format.{settings, nodes, root}
use Rattle.diagram.specs.Ordered.{LooseRecords}

-- bytes that are a loose table of n settings and N nodes
pub record Loosely (bytes : List ℕ) (n N : ℕ) : Type 0 where
  pub long : length bytes ≡ 8 * (N + 1)
  pub few : N ≤ 65535
  pub has_settings : settings (word_at bytes) ≡ n
  pub has_nodes : nodes (word_at bytes) ≡ N
  pub root_node : root (word_at bytes) / 2 ≤ N
  pub records : LooseRecords (word_at bytes) n N
