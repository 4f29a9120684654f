-- Equal contents, equal files: what two tables have in common, said of their bytes. Assumes nothing.
use Rattle.std.specs.Prelude.{ℕ, ◌^◌, ◌<◌, ◌≡◌, ◌↔◌, List}
use Rattle.words.specs.Words.{Bytes, word_at}
use Rattle.diagram.specs.Meaning.{permitted}
use Rattle.diagram.specs.Rules.{Accepts}

-- the same setups of n settings are permitted by s and by t
abbrev pub SameSetups : ℕ → List ℕ → List ℕ → Type 0
SameSetups n s t = (x : ℕ) → x < 2 ^ n → permitted (word_at s) x ≡ permitted (word_at t) x

-- two accepted tables with the same n permit the same setups exactly when they are byte for byte equal
abbrev pub EqualFiles : Type 0
EqualFiles = (n M N : ℕ) (s t : List ℕ) → Bytes s → Bytes t → Accepts s n M → Accepts t n N → SameSetups n s t ↔ (s ≡ t)
