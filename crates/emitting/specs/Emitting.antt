-- The records of a diagram R of nodes 1 to M, numbered anew by a map W, written at their numbers. For inner contracts only. Assumes nothing.
use Rattle.std.specs.Prelude.{ℕ, suc, ◌+◌, ◌-◌, ◌*◌, ◌/◌, ◌≤◌, ◌<◌, ◌≡◌, List}
use Rattle.words.specs.Words.{word_at, put_word}
use Rattle.diagram.specs.Format.{Words, middle_field, low_field}
use Rattle.numbering.specs.Renewal.{image, renew}

-- the number of node v's new record
unfoldable pub record_number : Words → ℕ → ℕ
record_number W v = (W v - 1) / 2

-- node v, of record z, has a new record: it is kept, and its edges become different ones. (Nodes with equal ones share it.)
pub record HasRecord (W : Words) (v z : ℕ) : Type 0 where
  pub live : 0 < W v
  pub apart : image W (middle_field z) ≡ image W (low_field z) → ⊥

-- node v's new record is written at its number, if it has one
pub data Emitted (W : Words) (out out' : List ℕ) (v z : ℕ) : Type 0 where
  quiet : (HasRecord W v z → ⊥) → out' ≡ out → Emitted W out out' v z
  wrote : HasRecord W v z → renew W z < 18446744073709551616 → out' ≡ put_word out (record_number W v) (renew W z) → Emitted W out out' v z

-- the numbers begin at 1, their words lie within `size` bytes, and one number has one record
pub record NumbersFit (R W : Words) (M size : ℕ) : Type 0 where
  pub some : (v : ℕ) → v < M → HasRecord W (suc v) (R (suc v)) → 0 < record_number W (suc v)
  pub room : (v : ℕ) → v < M → HasRecord W (suc v) (R (suc v)) → 8 * record_number W (suc v) + 8 ≤ size
  pub one : (u v : ℕ) → u < M → v < M → HasRecord W (suc u) (R (suc u)) → HasRecord W (suc v) (R (suc v)) → record_number W (suc u) ≡ record_number W (suc v) → renew W (R (suc u)) ≡ renew W (R (suc v))

-- the new records of nodes 1 to m are written at their numbers, and word 0 is the header
pub record HoldsRecords (R W : Words) (m header : ℕ) (out : List ℕ) : Type 0 where
  pub first : word_at out 0 ≡ header
  pub records : (v : ℕ) → v < m → HasRecord W (suc v) (R (suc v)) → word_at out (record_number W (suc v)) ≡ renew W (R (suc v))
