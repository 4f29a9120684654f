-- What the functions that follow a setup know of its way: for inner contracts only. Assumes nothing.
use Rattle.std.specs.Prelude.{ℕ, ◌+◌, ◌-◌, ◌*◌, ◌/◌, ◌^◌, ◌≤◌, ◌<◌, ◌≡◌, ◌≢◌, cond, List}
use Rattle.words.specs.Words.{word_at}
use Rattle.diagram.specs.Format.{Words, height}
use Rattle.diagram.specs.Meaning.{bit, under}
use Rattle.walking.specs.Inner.{Lies}

-- a setup that has all but its last h settings as x is permitted under edge `from` exactly if it is under e
abbrev pub Along : Words → ℕ → ℕ → ℕ → ℕ → Type 0
Along w from x h e = (y : ℕ) → y / 2 ^ h ≡ x / 2 ^ h → under w from y ≡ under w e y

-- the smallest setup that begins as x does down to the setting of height h, and has that one turned over
unfoldable pub turned_at : ℕ → ℕ → ℕ
turned_at h x = cond (bit h x) (x / 2 ^ (h - 1) - 1) (x / 2 ^ (h - 1) + 1) * 2 ^ (h - 1)

-- at height h a way from edge `from` took edge e and not `other`, of a node of n settings
pub record Passed (bytes : List ℕ) (n from x e h other : ℕ) : Type 0 where
  pub lies : Lies bytes n other
  pub lower : height (word_at bytes) (other / 2) < h
  pub differ : other ≢ e
  pub across : Along (word_at bytes) from (turned_at h x) (h - 1) other

-- the way of setup x from edge `from`: it is at edge e, below height h; and if it has passed a node, `other` is the edge that it did not take at the last one
pub record Follows (bytes : List ℕ) (n from x e h other : ℕ) : Type 0 where
  pub tall : 0 < h
  pub low : h ≤ n + 1
  pub along : Along (word_at bytes) from x (h - 1) e
  pub passed : h ≤ n → Passed bytes n from x e h other
