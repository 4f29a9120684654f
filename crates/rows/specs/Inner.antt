-- Rows of coefficients, and what they stand for: for inner contracts only. Assumes nothing.
use Rattle.std.specs.Prelude.{◌≡◌, ℕ, zero, suc, ◌+◌, ◌-◌, ◌*◌, ◌/◌, ◌%◌, ◌^◌, ◌<◌, ◌≤◌, Bool, not, List, length}
use Rattle.words.specs.Words.{word_at}
use Rattle.words.specs.Swap.{swap}
use Rattle.diagram.specs.Format.{height, then_edge}
use Rattle.diagram.specs.Meaning.{plain, under}
use Rattle.diagram.specs.Ordered.{HasDiagram, Reduced}
use Rattle.diagram.specs.Reading.{Within}
use Rattle.pascal.specs.Triangle.{binomial}
use Rattle.pascal.specs.Ones.{count_on}

-- the coefficient of z ^ j in the sum of a i × z ^ i × (1 + z) ^ (h - i) over all i
unfoldable pub expand : (ℕ → ℕ) → ℕ → ℕ → ℕ
expand a h zero = a 0
expand a zero (suc j) = a (suc j)
expand a (suc h) (suc j) = a 0 * binomial (suc h) (suc j) + expand (λ i. a (suc i)) h j

-- a row with every sign turned, modulo 2 ^ 64
unfoldable pub opposed : (ℕ → ℕ) → ℕ → ℕ
opposed a i = (2 ^ 64 - a i) % 2 ^ 64

-- ... if the flag is set
unfoldable pub turned : ℕ → (ℕ → ℕ) → ℕ → ℕ
turned zero a = a
turned (suc f) a = opposed a

-- modulo 2 ^ 64 the row a, up to entry m, stands for the test P of setups of h settings: for every j, those with j settings on that pass, less those that do not
pub record Stands (P : ℕ → Bool) (a : ℕ → ℕ) (m h : ℕ) : Type 0 where
  pub ends : (i : ℕ) → h < i → i ≤ m → a i ≡ 0
  pub balance : (j : ℕ) → j ≤ m → (expand a h j + count_on (λ x. not (P x)) h j) % 2 ^ 64 ≡ count_on P h j % 2 ^ 64

-- the numbers from place p of the sheet on: least significant byte first
unfoldable pub from : List ℕ → ℕ → ℕ → ℕ
from sheet p i = swap (word_at sheet (p + i))

-- the row of node k, where a row has m + 1 places
abbrev pub row_of : List ℕ → ℕ → ℕ → ℕ → ℕ
row_of sheet m k = from sheet ((m + 1) * k)

-- `count` places from `to` on hold the numbers from `high` on, and those from `plus` on, less those from `minus` on; the places before them are as they were
pub record Mixes (s s' : List ℕ) (to high plus minus count : ℕ) : Type 0 where
  pub before : (p : ℕ) → p < to → word_at s' p ≡ word_at s p
  pub made : (i : ℕ) → i < count → (from s' to i + from s minus i) % 2 ^ 64 ≡ (from s high i + from s plus i) % 2 ^ 64

-- the rows of nodes 0 to k stand for them
pub record Rows (table sheet : List ℕ) (m k : ℕ) : Type 0 where
  pub within : Within table k
  pub few : m ≤ 63
  pub room : 8 * ((m + 1) * (k + 1)) ≤ length sheet
  pub stand : (v : ℕ) → v ≤ k → Stands (plain (word_at table) v) (row_of sheet m v) m (height (word_at table) v)

-- the rows of the nodes below k stand for them, its then-edge is plain, and it has room for a row
pub record Next (table sheet : List ℕ) (m k : ℕ) : Type 0 where
  pub within : Within table k
  pub plain_then : then_edge (word_at table) k % 2 ≡ 0
  pub room : 8 * ((m + 1) * (k + 1)) ≤ length sheet
  pub below : Rows table sheet m (k - 1)

-- the row of node k stands for it, and the places before it are as they were
pub record Entered (table s s' : List ℕ) (m k : ℕ) : Type 0 where
  pub before : (p : ℕ) → p < (m + 1) * k → word_at s' p ≡ word_at s p
  pub stands : Stands (plain (word_at table) k) (row_of s' m k) m (height (word_at table) k)

-- a table holds a reduced diagram of n settings and N nodes, and the sheet has room for a row of each
pub record Fillable (table sheet : List ℕ) (n N m : ℕ) : Type 0 where
  pub holds : HasDiagram table n N
  pub reduced : Reduced (word_at table) n N
  pub few : m ≤ 63
  pub room : 8 * ((m + 1) * (N + 1)) ≤ length sheet

-- edge e, from n settings down, can be counted by the row of its node
pub record Opens (table sheet : List ℕ) (e n m : ℕ) : Type 0 where
  pub rows : Rows table sheet m (e / 2)
  pub low : height (word_at table) (e / 2) ≤ n
  pub few : n ≤ 63
  pub some : m ≤ n

-- ... in some table
abbrev pub Opened : List ℕ → ℕ → ℕ → ℕ → Type 0
Opened sheet e n m = (table : List ℕ) × Opens table sheet e n m

-- c setups of n settings that edge e permits have exactly m on, in whichever table it can be counted
abbrev pub CountsUnder : List ℕ → ℕ → ℕ → ℕ → ℕ → Type 0
CountsUnder sheet e n m c = (table : List ℕ) → Opens table sheet e n m → c ≡ count_on (under (word_at table) e) n m
