-- How an operation that writes a table answers, what it leaves in the out memory, and how that is handed out. Assumes nothing.
use Rattle.std.specs.Prelude.{ℕ, ◌≡◌, cond, List, [], ◌++◌, leb, ltb, length, take, drop}
use Rattle.std.proofs.Math.Option.{Option, none, some}
use Rattle.diagram.specs.Answer.{Answer, value, refusal}

-- the table to write, where there is one and `room` bytes hold it: rules 16 and 11
unfoldable pub fitted : ℕ → Option (List ℕ) → Answer (List ℕ)
fitted room none = refusal 16 0
fitted room (some bytes) = cond (ltb room (length bytes)) (refusal 11 0) (value bytes)

-- what is answered: the number of bytes written
unfoldable pub length_of : Answer (List ℕ) → Answer ℕ
length_of (value bytes) = value (length bytes)
length_of (refusal number place) = refusal number place

-- the out memory afterwards: the written bytes, then what stood there
unfoldable pub out_after : Answer (List ℕ) → List ℕ → List ℕ
out_after (value bytes) out = bytes ++ drop (length bytes) out
out_after (refusal number place) out = out

-- the front of the out memory: its first m bytes, or nothing if m is above its length
unfoldable pub front_of : ℕ → List ℕ → List ℕ
front_of m out = cond (leb m (length out)) (take m out) []

-- a call handed these bytes out: it answered a number, and they are the front of so many bytes that stood when it returned
pub record HandsOut (answer : Answer ℕ) (out' bytes : List ℕ) : Type 0 where
  pub count : ℕ
  pub answered : answer ≡ value count
  pub read : bytes ≡ front_of count out'
