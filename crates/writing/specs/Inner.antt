-- The setups between two bounds, and the diagram of them that is built: for inner contracts only. Assumes nothing.
use Rattle.std.specs.Prelude.{ℕ, ◌+◌, ◌/◌, ◌^◌, ◌≤◌, ◌<◌, ◌≡◌, Bool, ◌&&◌, leb}
use Rattle.diagram.specs.Format.{Words}
use Rattle.diagram.specs.Meaning.{under}
use Rattle.numbering.specs.Numbered.{PlainTable, Finished, Keyed}

-- the setups from lo to hi that P permits
unfoldable pub between : (ℕ → Bool) → ℕ → ℕ → ℕ → Bool
between P lo hi x = P x && leb lo x && leb x hi

-- the words R of a table w, of N nodes, and of two cuts are numbered by the map W, with c records: below edge e they permit what the table permits from lo to hi below edge r
pub record IsBuilt (w : Words) (n N r lo hi : ℕ) (R W : Words) (c e : ℕ) : Type 0 where
  pub means : (x : ℕ) → x < 2 ^ n → under R e x ≡ between (under w r) lo hi x
  pub finished : Finished R W n (N + n + n) c e
  pub keyed : Keyed R W n (N + n + n)
  pub plain : PlainTable R W n N
  pub inside : e / 2 ≤ N + n + n
  pub top : 0 < W (e / 2)
