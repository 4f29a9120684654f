-- A row of words as bytes. Assumes nothing.
use Rattle.std.specs.Prelude.{ℕ, ◌-◌, ◌/◌, ◌%◌, ◌^◌, List, get_or}

-- byte i of the words, most significant first; 0 past the end
unfoldable pub byte_of : List ℕ → ℕ → ℕ
byte_of words i = get_or words (i / 8) 0 / 256 ^ (7 - i % 8) % 256
