-- The byte swap: for inner contracts only. Assumes nothing.
use Rattle.std.specs.Prelude.{ℕ, ◌+◌, ◌*◌, ◌/◌, ◌%◌}

-- the eight bytes of v in the opposite order
unfoldable pub swap : ℕ → ℕ
swap v =
    v % 256 * 72057594037927936 + v / 256 % 256 * 281474976710656 + v / 65536 % 256 * 1099511627776 + v / 16777216 % 256 * 4294967296
    + v / 4294967296 % 256 * 16777216 + v / 1099511627776 % 256 * 65536 + v / 281474976710656 % 256 * 256 + v / 72057594037927936 % 256
