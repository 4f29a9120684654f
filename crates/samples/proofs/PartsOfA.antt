-- The two parts of table A, by computing: A is accepted, and each part is a table of its setups. Assumes nothing.
use Prim.Native.Nat.{ℕ, ◌≤◌, ◌<◌}
use mathlib.Core.Path.{◌≡◌, refl}
use mathlib.Core.Bool.{true, xor}
use lib.Dec.{lit<, lit≤}
use Rattle.words.specs.Words.{be_at, word_at, bytes_of}
use Rattle.diagram.specs.Format.{high_field, middle_field, low_field, settings, nodes, root, height, then_edge, else_edge}
use Rattle.diagram.specs.Meaning.{bit, branch, flip, holds, plain, under, permitted}
use Rattle.diagram.specs.Count.{indicator, count_below, some_below}
use Rattle.diagram.specs.Answer.{value, refusal, and_then, each}
use Rattle.diagram.specs.Rules.{Accepts, misled, check_record, names, named, check_named, wrong_root, check_header_of, check_records, check_names, check_diagram, check}
use Rattle.division.specs.Span.{size, start, within, in_part}
use Rattle.tables.specs.Table.{accepted_with, is_table}
use Rattle.parts.specs.Operations.{part_writing}
use Rattle.samples.specs.Samples.{table, A, A₀, A₁, sheet}
use Rattle.samples.proofs.PartSamples.{sheet_short, index_high, part_is, out_short}

pub A-accepted : Accepts A 3 3
unfolding table A be_at word_at bytes_of high_field middle_field low_field settings nodes root height then_edge else_edge misled check_record names named check_named wrong_root check_header_of check_records check_names check_diagram check and_then each some_below
A-accepted = refl

A₀-is : is_table 3 (in_part 2 0 3 (permitted (word_at A))) A₀ ≡ true
unfolding table A A₀ be_at word_at bytes_of high_field middle_field low_field settings nodes root height then_edge else_edge misled check_record names named check_named wrong_root check_header_of check_records check_names check_diagram check and_then each some_below bit branch flip holds plain under permitted indicator count_below size start within in_part accepted_with is_table xor
A₀-is = refl

A₁-is : is_table 3 (in_part 2 1 3 (permitted (word_at A))) A₁ ≡ true
unfolding table A A₁ be_at word_at bytes_of high_field middle_field low_field settings nodes root height then_edge else_edge misled check_record names named check_named wrong_root check_header_of check_records check_names check_diagram check and_then each some_below bit branch flip holds plain under permitted indicator count_below size start within in_part accepted_with is_table xor
A₁-is = refl

-- with m places and b bytes lent
module _ (m b : ℕ) where
  pub part_0 : 515 ≤ m → 32 ≤ b → part_writing A 2 0 (sheet m) b ≡ value A₀
  unfolding A₀
  part_0 p q = part_is A 3 3 2 A-accepted (lit< tt) (lit≤ tt) m p 0 b (lit< tt) 3 _ A₀-is q

  pub part_1 : 515 ≤ m → 40 ≤ b → part_writing A 2 1 (sheet m) b ≡ value A₁
  unfolding A₁
  part_1 p q = part_is A 3 3 2 A-accepted (lit< tt) (lit≤ tt) m p 1 b (lit< tt) 4 _ A₁-is q

  pub part_1_short : 515 ≤ m → b < 40 → part_writing A 2 1 (sheet m) b ≡ refusal 11 0
  unfolding A₁
  part_1_short p q = out_short A 3 3 2 A-accepted (lit< tt) (lit≤ tt) m p 1 b (lit< tt) 4 _ A₁-is q

  pub part_2 : 515 ≤ m → part_writing A 2 2 (sheet m) b ≡ refusal 15 0
  part_2 p = index_high A 3 3 2 A-accepted (lit< tt) (lit≤ tt) m p 2 b (lit≤ tt)

  pub places_short : (j : ℕ) → m < 515 → part_writing A 2 j (sheet m) b ≡ refusal 10 0
  places_short j p = sheet_short A 3 3 2 A-accepted (lit< tt) (lit≤ tt) j m b p
