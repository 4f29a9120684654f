-- Demand 3: what a list of part-write calls comes to. Assumes nothing.
use Rattle.std.specs.Prelude.{ℕ, ◌+◌, ◌/◌, ◌^◌, ◌≤◌, ◌<◌, ◌≡◌, ◌≢◌, ◌↔◌, true, cond, leb, ltb, length}
use mathlib.Core.List.{List, Memᴰ}
use Rattle.std.proofs.Math.Option.{some}
use Rattle.words.specs.Words.{word_at}
use Rattle.diagram.specs.Meaning.{permitted}
use Rattle.diagram.specs.Count.{total}
use Rattle.diagram.specs.Answer.{Answer, value, refusal}
use Rattle.diagram.specs.Rules.{Accepts}
use Rattle.ranking.specs.Operations.{unrank_setup}
use Rattle.division.specs.Span.{start, size, in_part}
use Rattle.tables.specs.Table.{table_of}
use Rattle.tables.specs.Writing.{fitted}
use Rattle.parts.specs.Operations.{needed}
use Rattle.parts.specs.Calls.{Call, Wrote}

-- what is due to a call on an accepted table of n settings and N nodes, with k from 1 to 65,535: refusal 10, 15, 16 or 11, in this order, or the bytes of the part
unfoldable pub due : List ℕ → ℕ → ℕ → ℕ → Call → Answer (List ℕ)
due table n N k c =
    cond (ltb (length c.sheet / 8) (needed N)) (refusal 10 0)
    (cond (leb k c.index) (refusal 15 0)
    (fitted (length c.out) (table_of n (in_part k c.index n (permitted (word_at table))))))

-- bytes that are part j of k, of an accepted table of n settings
pub record Right (table : List ℕ) (n k j : ℕ) (bytes : List ℕ) : Type 0 where
  -- there is such a part
  pub index_fits : j < k
  -- N'
  pub nodes : ℕ
  -- an accepted table, with the same n
  pub accepted : Accepts bytes n nodes
  -- the one that is set for the part
  pub set : table_of n (in_part k j n (permitted (word_at table))) ≡ some bytes
  -- it permits as many setups as the part's size
  pub sized : total (word_at bytes) ≡ size (total (word_at table)) k j
  -- setup number r of it is setup number start + r of the whole
  pub numbered : (r : ℕ) → r < size (total (word_at table)) k j
      → (x : ℕ) × (unrank_setup r n (permitted (word_at bytes)) ≡ value x) × (unrank_setup (start (total (word_at table)) k j + r) n (permitted (word_at table)) ≡ value x)

-- what holds after a list of calls on an accepted table of n settings and N nodes, with k parts
pub record Division (table : List ℕ) (n N k : ℕ) (calls : List Call) : Type 0 where
  -- just the calls that are to be refused were refused, with that refusal
  pub refusals : (c : Call) → Memᴰ c calls → (number place : ℕ) → (c.answer ≡ refusal number place) ↔ (due table n N k c ≡ refusal number place)
  -- the k sizes differ by at most one
  pub even : (i j : ℕ) → i < k → j < k → size (total (word_at table)) k i ≤ size (total (word_at table)) k j + 1
  -- every part written is right
  pub right : (j : ℕ) (bytes : List ℕ) → Wrote calls j bytes → Right table n k j bytes
  -- a part written twice is one part
  pub once : (j : ℕ) (a b : List ℕ) → Wrote calls j a → Wrote calls j b → a ≡ b
  -- two written parts of different index share no setup
  pub disjoint : (i j : ℕ) (a b : List ℕ) → Wrote calls i a → Wrote calls j b → i ≢ j
      → (x : ℕ) → x < 2 ^ n → permitted (word_at a) x ≡ true → permitted (word_at b) x ≡ true → ⊥
  -- if all k parts were written, every permitted setup is in exactly one of them
  pub complete : (part : ℕ → List ℕ) → ((j : ℕ) → j < k → Wrote calls j (part j)) → (x : ℕ) → x < 2 ^ n → permitted (word_at table) x ≡ true
      → (j : ℕ) × (j < k) × (permitted (word_at (part j)) x ≡ true) × ((i : ℕ) → i < k → permitted (word_at (part i)) x ≡ true → i ≡ j)
