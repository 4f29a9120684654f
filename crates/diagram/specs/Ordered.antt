-- The rules as facts about words, one field each: what the inner functions require and the laws are over. Shown equivalent to the rules in proofs/Accept. Assumes nothing.
use Rattle.std.specs.Prelude.{ℕ, suc, ◌+◌, ◌*◌, ◌/◌, ◌%◌, ◌≤◌, ◌<◌, ◌≡◌, ◌⊎◌, ◌≢◌, List, length}
use Rattle.words.specs.Words.{word_at}
use Rattle.diagram.specs.Format.{Words, settings, nodes, root, height, then_edge, else_edge}

-- a loose diagram of n settings and N nodes: heights of 1 to n, and edges to nodes of smaller heights. Rules 4 and 6 as they stand for loose tables
pub record LooseRecords (w : Words) (n N : ℕ) : Type 0 where
  pub tall : (k : ℕ) → k < N → 0 < height w (suc k)
  pub low : (k : ℕ) → k < N → height w (suc k) ≤ n
  pub then_node : (k : ℕ) → k < N → then_edge w (suc k) / 2 ≤ N
  pub else_node : (k : ℕ) → k < N → else_edge w (suc k) / 2 ≤ N
  pub then_height : (k : ℕ) → k < N → height w (then_edge w (suc k) / 2) < height w (suc k)
  pub else_height : (k : ℕ) → k < N → height w (else_edge w (suc k) / 2) < height w (suc k)

-- an ordered diagram (OBDD) of n settings and N nodes: heights of 1 to n, and edges to smaller nodes of smaller heights. Rules 4 and 6
pub record Ordered (w : Words) (n N : ℕ) : Type 0 where
  pub tall : (k : ℕ) → k < N → 0 < height w (suc k)
  pub low : (k : ℕ) → k < N → height w (suc k) ≤ n
  pub then_node : (k : ℕ) → k < N → then_edge w (suc k) / 2 ≤ k
  pub else_node : (k : ℕ) → k < N → else_edge w (suc k) / 2 ≤ k
  pub then_height : (k : ℕ) → k < N → height w (then_edge w (suc k) / 2) < height w (suc k)
  pub else_height : (k : ℕ) → k < N → height w (else_edge w (suc k) / 2) < height w (suc k)

-- a reduced one (ROBDD): records ascend, then-edges are plain, a record's edges differ. Rules 5, 7 and 8 too
pub record Reduced (w : Words) (n N : ℕ) : Type 0 where
  pub ordered : Ordered w n N
  pub ascends : (k : ℕ) → suc k < N → w (suc k) < w (suc (suc k))
  pub then_plain : (k : ℕ) → k < N → then_edge w (suc k) % 2 ≡ 0
  pub differ : (k : ℕ) → k < N → then_edge w (suc k) ≢ else_edge w (suc k)

-- every node but the last is named by a record. Rule 9
abbrev pub Named : Words → ℕ → Type 0
Named w N = (k : ℕ) → suc k < N → (j : ℕ) × (j < N) × ((then_edge w (suc j) / 2 ≡ suc k) ⊎ (else_edge w (suc j) / 2 ≡ suc k))

-- a proper diagram: reduced, and no node is left over. Rules 4 to 9
pub record Proper (w : Words) (n N : ℕ) : Type 0 where
  pub reduced : Reduced w n N
  pub named : Named w N

-- bytes that hold an ordered diagram of n settings and N nodes, record k as word k
pub record HasDiagram (bytes : List ℕ) (n N : ℕ) : Type 0 where
  pub long : 8 * N + 8 ≤ length bytes
  pub few : N ≤ 65535
  pub few_settings : n ≤ 63
  pub ordered : Ordered (word_at bytes) n N

-- bytes that are an accepted table of n settings and N nodes. Rules 1 to 9
pub record Accepted (bytes : List ℕ) (n N : ℕ) : Type 0 where
  pub long : length bytes ≡ 8 * (N + 1)
  pub few : N ≤ 65535
  pub has_settings : settings (word_at bytes) ≡ n
  pub has_nodes : nodes (word_at bytes) ≡ N
  pub root_node : root (word_at bytes) / 2 ≡ N
  pub proper : Proper (word_at bytes) n N
