-- Nodes numbered anew by a map: what an edge and a record become. For inner contracts only. Assumes nothing.
use Rattle.std.specs.Prelude.{ℕ, ◌+◌, ◌-◌, ◌*◌, ◌/◌, ◌%◌, ◌<◌, ◌≤◌, ◌≡◌, List, length}
use Rattle.words.specs.Words.{word_at, put_word}
use Rattle.diagram.specs.Format.{Words, high_field, middle_field, low_field}
use Rattle.diagram.specs.Reading.{turn, record_of}

-- a map W of nodes: place v holds 0 if node v is left out, or else 1 + the edge that takes the place of a plain edge to v. What edge e becomes
unfoldable pub image : Words → ℕ → ℕ
image W e = turn (e % 2) (W (e / 2) - 1)

-- the record of height h and edges t and e, with the flag of t taken out of both
unfoldable pub normal : ℕ → ℕ → ℕ → ℕ
normal h t e = record_of h (2 * (t / 2)) (turn (t % 2) e)

-- what record z becomes
unfoldable pub renew : Words → ℕ → ℕ
renew W z = normal (high_field z) (image W (middle_field z)) (image W (low_field z))

-- the nodes of record z are in the map, and kept: its edges can be read off
pub record Renewable (map : List ℕ) (z : ℕ) : Type 0 where
  pub then_room : 8 * (middle_field z / 2) + 8 ≤ length map
  pub else_room : 8 * (low_field z / 2) + 8 ≤ length map
  pub then_live : 0 < word_at map (middle_field z / 2)
  pub else_live : 0 < word_at map (low_field z / 2)
  pub then_small : word_at map (middle_field z / 2) < 268435456
  pub else_small : word_at map (low_field z / 2) < 268435456

-- its then-edge is plain, and becomes a plain one
pub record StaysPlain (W : Words) (z : ℕ) : Type 0 where
  pub plain : middle_field z % 2 ≡ 0
  pub stays : W (middle_field z / 2) % 2 ≡ 1

-- node v is in the map, and where it is kept so are the nodes of its record z
pub record Readable (map : List ℕ) (v z : ℕ) : Type 0 where
  pub room : 8 * v + 8 ≤ length map
  pub kept : 0 < word_at map v → Renewable map z

-- what node v, of record z, becomes: a word, and the flag taken out of it; the word is 0 if the node is left out
pub record IsKey (W : Words) (v z word flag : ℕ) : Type 0 where
  pub dead : W v ≡ 0 → word ≡ 0
  pub word_is : 0 < W v → word ≡ renew W z
  pub flag_is : 0 < W v → flag ≡ image W (middle_field z) % 2
  pub flag_low : flag < 2

-- the count and the last record after the record `word`: it counts, unless it is the last one again
pub data Counted (word count last count' last' : ℕ) : Type 0 where
  same_record : word ≡ last → count' ≡ count → last' ≡ word → Counted word count last count' last'
  new_record : (word ≡ last → ⊥) → count' ≡ count + 1 → last' ≡ word → Counted word count last count' last'

-- the place x in the map, the count and the last record after a node is numbered whose new record is `word`, with `flag` taken out of it
pub data Given (word flag count last x count' last' : ℕ) : Type 0 where
  given_edge : middle_field word ≡ low_field word → x ≡ 1 + middle_field word + flag → count' ≡ count → last' ≡ last → Given word flag count last x count' last'
  given_number : (middle_field word ≡ low_field word → ⊥) → x ≡ 1 + 2 * count' + flag → Counted word count last count' last' → Given word flag count last x count' last'

-- the map becomes map': nothing changes for a node that is left out
pub data Gave (map map' : List ℕ) (v word flag count last count' last' : ℕ) : Type 0 where
  skipped : word ≡ 0 → map' ≡ map → count' ≡ count → last' ≡ last → Gave map map' v word flag count last count' last'
  stored : (x : ℕ) → (word ≡ 0 → ⊥) → x < 18446744073709551616 → map' ≡ put_word map v x → Given word flag count last x count' last' → Gave map map' v word flag count last count' last'
