-- What is known while the pairs are found, and of all of them: for inner contracts and laws only. Assumes nothing.
use Rattle.std.specs.Prelude.{ℕ, ◌+◌, ◌*◌, ◌/◌, ◌^◌, ◌≤◌, ◌<◌, ◌≡◌, Bool, true, cond, List, Option, Some, None}
use Rattle.words.specs.Words.{word_at}
use Rattle.keys.specs.Keys.{Keys}
use Rattle.diagram.specs.Format.{Words}
use Rattle.diagram.specs.Meaning.{under}
use Rattle.diagram.specs.Count.{count_below}
use Rattle.diagram.specs.Reading.{Within}
use Rattle.pairing.specs.Pairs.{pair_of, first_edge, second_edge, pair_height, follow, reached, pair_count}

-- both edges of a pair lie in their tables
pub record PairWithin (t u : List ℕ) (pair : ℕ) : Type 0 where
  pub first : Within t (first_edge pair / 2)
  pub second : Within u (second_edge pair / 2)

-- what operation op makes of setup x under the two edges of a pair
unfoldable pub meaning : Words → Words → (Bool → Bool → Bool) → ℕ → ℕ → Bool
meaning w v op pair x = op (under w (first_edge pair) x) (under v (second_edge pair) x)

-- some of the first `count` words is x
abbrev pub Among : (ℕ → ℕ) → ℕ → ℕ → Type 0
Among W count x = (i : ℕ) × (i < count) × (W i ≡ x)

-- the edge from pair i to its then-pair (on) or its else-pair is stored
abbrev pub LeadsOn : Words → Words → (ℕ → ℕ) → ℕ → ℕ → Bool → ℕ → Type 0
LeadsOn w v W P count on i = (j : ℕ) × (j < count) × (cond on (W (P + i)) (W (3 * P + i)) ≡ 2 * j) × (W j ≡ follow w v on (W i))

-- all pairs found pass a test
abbrev pub Pass : (ℕ → Bool) → (ℕ → ℕ) → ℕ → Type 0
Pass R W count = (i : ℕ) → i < count → R (W i) ≡ true

-- a test that what a pair leads to passes if the pair does
abbrev pub Closed : Words → Words → (ℕ → Bool) → Type 0
Closed w v R = (pair : ℕ) → R pair ≡ true → 0 < pair_height w v pair → (on : Bool) → R (follow w v on pair) ≡ true

-- the two edges of pair i are stored, and the other words stay
pub record EdgesPut (W W' : ℕ → ℕ) (P i high low : ℕ) : Type 0 where
  pub then_is : W' (P + i) ≡ 2 * high
  pub else_is : W' (3 * P + i) ≡ 2 * low
  pub other : (k : ℕ) → (k ≡ P + i → ⊥) → (k ≡ 3 * P + i → ⊥) → W' k ≡ W k

-- pair i and its edges stay
pub record Kept (W W' : ℕ → ℕ) (P i : ℕ) : Type 0 where
  pub pair_kept : W' i ≡ W i
  pub then_kept : W' (P + i) ≡ W (P + i)
  pub else_kept : W' (3 * P + i) ≡ W (3 * P + i)

-- pair i lies in the tables, and its edges are stored
pub record Done (t u : List ℕ) (W : ℕ → ℕ) (P count i : ℕ) : Type 0 where
  pub inside : PairWithin t u (W i)
  pub leads : (on : Bool) → 0 < pair_height (word_at t) (word_at u) (W i) → LeadsOn (word_at t) (word_at u) W P count on i

-- a pair is found at `index`: the pairs grow from `count` to `more`, and the new ones are done and come from it
pub record Visited (t u : List ℕ) (W W' : ℕ → ℕ) (P count pair index more : ℕ) : Type 0 where
  pub keys : Keys W' P more
  pub up : count ≤ more
  pub early : index ≤ count
  pub there : index < more
  pub here : W' index ≡ pair
  pub kept : (i : ℕ) → i < count → Kept W W' P i
  pub done : (i : ℕ) → count ≤ i → i < more → Done t u W' P more i
  pub passes : (R : ℕ → Bool) → Closed (word_at t) (word_at u) R → R pair ≡ true → (i : ℕ) → count ≤ i → i < more → R (W' i) ≡ true

-- every such test that the pair and all found pass is passed by more pairs than there is room for
abbrev pub Overfull : Words → Words → (ℕ → ℕ) → ℕ → ℕ → ℕ → Type 0
Overfull w v W P count pair = (R : ℕ → Bool) → Closed w v R → R pair ≡ true → Pass R W count → P < count_below R (2 ^ 34)

-- by cases: a pair's index and the number of pairs, or more than there is room for
abbrev pub Arrives : (ℕ → ℕ → Type 0) → Type 0 → Option (ℕ × ℕ) → Type 0
Arrives at full (Some x) = at x.0 x.1
Arrives at full None = full

-- the first `count` words are the pairs that the root edges a and b lead to, each once, and the edges between them are stored
pub record AllPairs (t u : List ℕ) (n a b : ℕ) (W : ℕ → ℕ) (P count : ℕ) : Type 0 where
  pub few : count ≤ P
  pub begins : (0 < count) × (W 0 ≡ pair_of a b)
  pub sound : (i : ℕ) → i < count → reached (word_at t) (word_at u) n a b (W i) ≡ true
  pub complete : (pair : ℕ) → reached (word_at t) (word_at u) n a b pair ≡ true → Among W count pair
  pub counted : count ≡ pair_count (word_at t) (word_at u) n a b
  pub distinct : (i j : ℕ) → i < count → j < count → W i ≡ W j → i ≡ j
  pub low : (i : ℕ) → i < count → pair_height (word_at t) (word_at u) (W i) ≤ n
  pub inside : (i : ℕ) → i < count → PairWithin t u (W i)
  pub leads : (on : Bool) (i : ℕ) → i < count → 0 < pair_height (word_at t) (word_at u) (W i) → LeadsOn (word_at t) (word_at u) W P count on i

-- by cases: the number of pairs, or more than there is room for
abbrev pub Outcome : (ℕ → Type 0) → Type 0 → Option ℕ → Type 0
Outcome all full (Some count) = all count
Outcome all full None = full
