-- Words that carry their nodes: by these at most 65,536 nodes are sorted, and numbered with no search. For inner contracts only. Assumes nothing.
use Rattle.std.specs.Prelude.{ℕ, suc, ◌+◌, ◌*◌, ◌/◌, ◌%◌, ◌^◌, ◌≤◌, ◌<◌, ◌≡◌, Bool, cond}
use Rattle.diagram.specs.Reading.{turn, record_of}
use Rattle.numbering.specs.Renewal.{normal}
use Rattle.sorting.specs.Sorting.{Ascending, Strict, Among}

-- both edges of the record of edges t and e in one key, the node of the first (16 bits) and the second (17)
unfoldable pub key_of : ℕ → ℕ → ℕ
key_of t e = t / 2 * 131072 + turn (t % 2) e

-- the record of height h and a key
unfoldable pub keyed : ℕ → ℕ → ℕ
keyed h key = record_of h (2 * (key / 131072)) (key % 131072)

-- the key of edges t and e, with the flag of t (1 bit) and node i (16 bits) behind it
unfoldable pub carry : ℕ → ℕ → ℕ → ℕ
carry t e i = key_of t e * 131072 + t % 2 * 65536 + i

-- the word by which node i, of height h and edges t and e, is sorted: its record, or where nodes are few the word that carries it
abbrev pub sort_word : Bool → ℕ → ℕ → ℕ → ℕ → ℕ
sort_word few h t e i = cond few (carry t e i) (normal h t e)

-- x carries a node below P, and a key above 0
pub record Carries (P x : ℕ) : Type 0 where
  pub fits : x < 2 ^ 50
  pub some : 0 < x / 131072
  pub inside : x % 65536 < P

-- the words c to end - 1 are ascending, carry nodes, and the same node twice only if the word is the same
pub record Carrying (W : ℕ → ℕ) (P c end : ℕ) : Type 0 where
  pub from : c ≤ end
  pub to : end ≤ P
  pub ascending : Ascending W c end
  pub carries : (j : ℕ) → c ≤ j → j < end → Carries P (W j)
  pub once : (j k : ℕ) → c ≤ j → j < end → c ≤ k → k < end → W j % 65536 ≡ W k % 65536 → W j ≡ W k

-- one of the words c to r - 1 is the record of x, and x's node has its number
pub record Places (W : ℕ → ℕ) (P c h r x : ℕ) : Type 0 where
  pub at : ℕ
  pub from : c ≤ at
  pub to : at < r
  pub makes : W at ≡ keyed h (x / 131072)
  pub number : W (P + x % 65536) ≡ 2 * suc at + x / 65536 % 2

-- the records of the words c to end - 1 of W are the words c to r - 1 of W', each once, and the nodes have their numbers; no other word before c or from P on has changed
pub record Placed (W W' : ℕ → ℕ) (P c end h r : ℕ) : Type 0 where
  pub from : c ≤ r
  pub to : r ≤ end
  pub strict : Strict W' c r
  pub came : (k : ℕ) → c ≤ k → k < r → Among (λ j. keyed h (W j / 131072)) c end (W' k)
  pub given : (j : ℕ) → c ≤ j → j < end → Places W' P c h r (W j)
  pub before : (k : ℕ) → k < c → W' k ≡ W k
  pub others : (k : ℕ) → P ≤ k → ((j : ℕ) → c ≤ j → j < end → k ≡ P + W j % 65536 → ⊥) → W' k ≡ W k
