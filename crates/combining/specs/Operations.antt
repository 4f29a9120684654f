-- Two tables made into one: what is answered, and what stands in the sheets and in the out memory afterwards. Assumes nothing.
use Rattle.std.specs.Prelude.{ℕ, ◌/◌, ◌≡◌, Bool, false, not, ◌||◌, cond, List, eqb, ltb, leb, length}
use Rattle.words.specs.Words.{word_at, words_over}
use Rattle.diagram.specs.Format.{Words, settings, root}
use Rattle.diagram.specs.Meaning.{under}
use Rattle.diagram.specs.Answer.{Answer, value, refusal}
use Rattle.checking.specs.Operations.{checking, blank}
use Rattle.tables.specs.Table.{table_of}
use Rattle.tables.specs.Writing.{fitted, length_of, out_after}
use Rattle.pairing.specs.Pairs.{pair_count}
use Rattle.naming.specs.declared.Operation.{Operation}
use Rattle.naming.specs.Combination.{combination}

-- an answer about two tables: the table that a refusal is of, 1 or 2, or 0 if it names none, and the answer
abbrev pub Reply : Type 0 → Type 0
Reply A = ℕ × Answer A

-- goes on with the value, or hands the refusal on as table k's
unfoldable pub of_table : {A B : Type 0} → ℕ → Answer A → (A → Reply B) → Reply B
of_table k (value a) f = f a
of_table k (refusal number place) f = (k, refusal number place)

-- the table of the setups named, by the root edges a and b of two diagrams of n settings, where `pairs` pairs and `room` bytes have room: rules 20, 16 and 11
unfoldable pub combine_roots : Operation → Words → Words → ℕ → ℕ → ℕ → ℕ → ℕ → Answer (List ℕ)
combine_roots op w v n a b pairs room = cond (ltb pairs (pair_count w v n a b)) (refusal 20 0) (fitted room (table_of n (combination op (under w a) (under v b))))

-- ... of two accepted tables: rule 19 before these
unfoldable pub combine_tables : Operation → Words → Words → ℕ → ℕ → Answer (List ℕ)
combine_tables op w v pairs room = cond (not (eqb (settings w) (settings v))) (refusal 19 0) (combine_roots op w v (settings w) (root w) (root v) pairs room)

-- the bytes to write, after the refusals of the first table and then of the second; a pair takes 4 places, 32 bytes
unfoldable pub combining : Operation → List ℕ → List ℕ → List ℕ → List ℕ → List ℕ → ℕ → Reply (List ℕ)
combining op table1 sheet1 table2 sheet2 pairs room =
    of_table 1 (checking table1 sheet1) λ _.
    of_table 2 (checking table2 sheet2) λ _.
    of_table 0 (combine_tables op (word_at table1) (word_at table2) (length pairs / 32) room) λ bytes.
    (0, value bytes)

-- the second sheet afterwards: untouched, if the first table is refused
unfoldable pub if_reached : {A : Type 0} → Answer A → List ℕ → List ℕ → List ℕ
if_reached (value a) sheet sheet' = sheet'
if_reached (refusal number place) sheet sheet' = sheet

-- a refusal that comes before the pair sheet is used: 1 to 10, and 19
unfoldable pub before_pairs : {A : Type 0} → Answer A → Bool
before_pairs (value a) = false
before_pairs (refusal number place) = leb number 10 || eqb number 19

-- the pair sheet afterwards: untouched by those, or else all its places are zero; its spare bytes are as before
unfoldable pub pairs_after : {A : Type 0} → Answer A → List ℕ → List ℕ
pairs_after answer pairs = cond (before_pairs answer) pairs (words_over (λ _. 0) (length pairs / 8) pairs)

-- the promise, of the values at entry and at return: the answer, the three sheets and the out memory
pub record Promise (op : Operation) (table1 sheet1 table2 sheet2 pairs out : List ℕ) (reply : Reply ℕ) (sheet1' sheet2' pairs' out' : List ℕ) : Type 0 where
  pub table_is : reply.0 ≡ (combining op table1 sheet1 table2 sheet2 pairs (length out)).0
  pub answers : reply.1 ≡ length_of (combining op table1 sheet1 table2 sheet2 pairs (length out)).1
  pub writes : out' ≡ out_after (combining op table1 sheet1 table2 sheet2 pairs (length out)).1 out
  pub first_sheet : sheet1' ≡ blank table1 sheet1
  pub second_sheet : sheet2' ≡ if_reached (checking table1 sheet1) sheet2 (blank table2 sheet2)
  pub pair_sheet : pairs' ≡ pairs_after (combining op table1 sheet1 table2 sheet2 pairs (length out)).1 pairs
