-- Parts of a table, by computing that given bytes are a table of the part. Assumes nothing.
use Prim.Native.Nat.{ℕ, ◌+◌, ◌*◌, ◌/◌, ◌≤◌, ◌<◌}
use mathlib.Core.Path.{◌≡◌, sym, ap, ◌∙◌}
use mathlib.Core.Bool.{true}
use mathlib.Core.List.{List}
use mathlib.Core.Option.{some}
use native.Mathlib.Omega.{arith}
use lib.ListN.{length}
use borrow.Author.Tests.{lt-ltb, le-ltb, le-leb, lt-leb}
use Rattle.words.specs.Words.{word_at, bytes_of}
use Rattle.words.proofs.Laws.{length-bytes_of}
use Rattle.words.proofs.Bytes.{bytes-bytes_of}
use Rattle.diagram.specs.Meaning.{permitted}
use Rattle.diagram.specs.Answer.{value, refusal}
use Rattle.diagram.specs.Rules.{Accepts}
use Rattle.division.specs.Span.{in_part}
use Rattle.tables.specs.Table.{is_table, table_of}
use Rattle.tables.specs.Writing.{fitted}
use Rattle.tables.proofs.TableFor.{is_table_for}
use Rattle.tables.proofs.TableLaws.{table_of-is}
use Rattle.parts.specs.Operations.{needed, part_writing}
use Rattle.parts.specs.Calls.{Call}
use Rattle.parts.specs.Division.{due}
use Rattle.parts.proofs.Promised.{due_is}
use Rattle.samples.specs.Samples.{table, sheet}

module _ (t : List ℕ) (n N k : ℕ) (ok : Accepts t n N) (parts : 0 < k) (few : k ≤ 65535) where
  -- a call of part-write by what is due to it: m places and b bytes
  asked : ℕ → ℕ → ℕ → Call
  asked j m b = record { index = j; sheet = sheet m; out = bytes_of b 0; answer = refusal 0 0; after_sheet = sheet m; after_out = bytes_of b 0 }

  places : (m : ℕ) → length (sheet m) / 8 ≡ m
  unfolding sheet
  places m = omega (arith, length-bytes_of (8 * m) 0)

  by_due : (j m b : ℕ) → part_writing t k j (sheet m) b ≡ due t n N k (asked j m b)
  unfolding asked
  by_due j m b = ap (part_writing t k j (sheet m)) (sym (length-bytes_of b 0)) ∙ due_is t n N k ok parts few (asked j m b)

  -- too few places
  pub sheet_short : (j m b : ℕ) → m < needed N → part_writing t k j (sheet m) b ≡ refusal 10 0
  unfolding due asked
  sheet_short j m b l = by_due j m b ∙ rw (places m, lt-ltb m (needed N) l)

  module _ (m : ℕ) (enough : needed N ≤ m) (j b : ℕ) where
    -- no such part
    pub index_high : k ≤ j → part_writing t k j (sheet m) b ≡ refusal 15 0
    unfolding due asked
    index_high l = by_due j m b ∙ rw (places m, le-ltb m (needed N) enough, le-leb k j l)

    -- a part that is computed to be the table of `digits`
    module _ (l : j < k) (M digits : ℕ) (is : is_table n (in_part k j n (permitted (word_at t))) (table M digits) ≡ true) where
      found : table_of n (in_part k j n (permitted (word_at t))) ≡ some (table M digits)
      unfolding table
      found =
          let f = is_table_for n (in_part k j n (permitted (word_at t))) (table M digits) is in
          table_of-is n (in_part k j n (permitted (word_at t))) (table M digits) f.0 (bytes-bytes_of (8 * (M + 1)) digits) f.1

      long : length (table M digits) ≡ 8 * (M + 1)
      unfolding table
      long = length-bytes_of (8 * (M + 1)) digits

      due_fitted : part_writing t k j (sheet m) b ≡ fitted b (some (table M digits))
      unfolding due asked
      due_fitted = by_due j m b ∙ rw (places m, le-ltb m (needed N) enough, lt-leb k j l, found, length-bytes_of b 0)

      pub part_is : 8 * (M + 1) ≤ b → part_writing t k j (sheet m) b ≡ value (table M digits)
      unfolding fitted
      part_is r = due_fitted ∙ rw (long, le-ltb b (8 * (M + 1)) r)

      pub out_short : b < 8 * (M + 1) → part_writing t k j (sheet m) b ≡ refusal 11 0
      unfolding fitted
      out_short r = due_fitted ∙ rw (long, lt-ltb b (8 * (M + 1)) r)
