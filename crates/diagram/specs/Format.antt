-- The layout of a table: a row of words, each of three fields. Word 0 is the header, word k the record of node k. Assumes nothing.
use Rattle.std.specs.Prelude.{ℕ, zero, suc, ◌/◌, ◌%◌, ◌^◌}

-- a table's words
abbrev pub Words : Type 0
Words = ℕ → ℕ

-- the three fields of a word: 6, 29 and 29 bits
unfoldable pub high_field : ℕ → ℕ
high_field v = v / 2 ^ 58

unfoldable pub middle_field : ℕ → ℕ
middle_field v = v / 2 ^ 29 % 2 ^ 29

unfoldable pub low_field : ℕ → ℕ
low_field v = v % 2 ^ 29

-- the header: n settings (Boolean variables), N nodes, the root edge
unfoldable pub settings : Words → ℕ
settings w = high_field (w 0)

unfoldable pub nodes : Words → ℕ
nodes w = middle_field (w 0)

unfoldable pub root : Words → ℕ
root w = low_field (w 0)

-- how many settings lie from node k's own to the last (n less the node's level); the sink (terminal node), node 0, has height 0
unfoldable pub height : Words → ℕ → ℕ
height w zero = 0
height w (suc k) = high_field (w (suc k))

-- the edges of node k. An edge's value is 2 × node + flag; the flag is the complement bit
unfoldable pub then_edge : Words → ℕ → ℕ
then_edge w k = middle_field (w k)

unfoldable pub else_edge : Words → ℕ → ℕ
else_edge w k = low_field (w k)
