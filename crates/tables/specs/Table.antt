-- The table of a set of setups: of all accepted ones that permit exactly the set, the one with the smallest node count. Assumes nothing.
use Rattle.std.specs.Prelude.{ℕ, ◌+◌, ◌*◌, ◌^◌, Bool, true, false, not, ◌&&◌, List, eqb}
use Rattle.std.specs.Bool.{xor}
use Rattle.std.proofs.Math.Option.{Option, none, some, map, bind}
use Rattle.words.specs.Words.{word_at, bytes_of}
use Rattle.diagram.specs.Meaning.{permitted}
use Rattle.diagram.specs.Count.{select, some_below}
use Rattle.diagram.specs.Answer.{Answer, value, refusal}
use Rattle.diagram.specs.Rules.{check}

-- the check accepts, with n settings
unfoldable pub accepted_with : ℕ → Answer (ℕ × ℕ) → Bool
accepted_with n (value a) = eqb a.0 n
accepted_with n (refusal number place) = false

-- the bytes are an accepted table of n settings that permits exactly the setups below 2 ^ n that pass P
unfoldable pub is_table : ℕ → (ℕ → Bool) → List ℕ → Bool
is_table n P bytes = accepted_with n (check bytes 0 (λ _. 0)) && not (some_below (λ x. xor (permitted (word_at bytes) x) (P x)) (2 ^ n))

-- such a table of N nodes, read as one number: the first among all numbers of 8 × (N + 1) bytes, if there is one
unfoldable pub table_with : ℕ → (ℕ → Bool) → ℕ → Option ℕ
table_with n P N = select (λ v. is_table n P (bytes_of (8 * (N + 1)) v)) (256 ^ (8 * (N + 1))) 0

-- there is one
unfoldable pub found : Option ℕ → Bool
found none = false
found (some v) = true

-- the smallest node count of such a table, at most 65,535, if there is one
unfoldable pub node_count : ℕ → (ℕ → Bool) → Option ℕ
node_count n P = select (λ N. found (table_with n P N)) 65536 0

-- the accepted table of n settings that permits exactly the setups that pass P, with the smallest node count, if there is one
unfoldable pub table_of : ℕ → (ℕ → Bool) → Option (List ℕ)
table_of n P = bind (node_count n P) (λ N. map (bytes_of (8 * (N + 1))) (table_with n P N))
