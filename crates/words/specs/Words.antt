-- Bytes, and words of 64 bits in a list of them, most significant byte first. Assumes nothing.
use Rattle.std.specs.Prelude.{ℕ, zero, suc, ◌+◌, ◌*◌, ◌/◌, ◌%◌, ◌^◌, ◌<◌, List, [], ◌∷◌, ◌++◌, get_or, take, drop}

-- every element is a byte: so it is of all memory
abbrev pub Bytes : List ℕ → Type 0
Bytes l = (i : ℕ) → get_or l i 0 < 256

-- the number that the m bytes from position `at` spell, most significant first
unfoldable pub be_at : List ℕ → ℕ → ℕ → ℕ
be_at bytes at zero = 0
be_at bytes at (suc m) = 256 * be_at bytes at m + get_or bytes (at + m) 0

-- word k: bytes 8 k to 8 k + 7
unfoldable pub word_at : List ℕ → ℕ → ℕ
word_at bytes k = be_at bytes (8 * k) 8

-- the number v as m bytes, most significant first
unfoldable pub bytes_of : ℕ → ℕ → List ℕ
bytes_of zero v = []
bytes_of (suc m) v = v / 256 ^ m % 256 ∷ bytes_of m v

-- the bytes with word k replaced by v
unfoldable pub put_word : List ℕ → ℕ → ℕ → List ℕ
put_word bytes k v = take (8 * k) bytes ++ bytes_of 8 v ++ drop (8 * k + 8) bytes

-- the words f 0 to f (m - 1) as bytes
unfoldable pub words_bytes : (ℕ → ℕ) → ℕ → List ℕ
words_bytes f zero = []
words_bytes f (suc m) = words_bytes f m ++ bytes_of 8 (f m)

-- memory whose first m words are f 0 to f (m - 1), and whose other bytes are as before
unfoldable pub words_over : (ℕ → ℕ) → ℕ → List ℕ → List ℕ
words_over f m bytes = words_bytes f m ++ drop (8 * m) bytes
