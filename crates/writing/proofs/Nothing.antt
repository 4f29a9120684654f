-- The table of no setups is the header alone. Assumes nothing.
use Prim.Native.Nat.{ℕ, ◌+◌, ◌*◌, ◌^◌, ◌≤◌, ◌<◌}
use mathlib.Core.Path.{◌≡◌, refl, ap, ◌∙◌}
use mathlib.Core.Bool.{Bool, false}
use mathlib.Core.List.{List, ◌++◌}
use native.Mathlib.Omega.{arith}
use lib.ListN.{length, drop}
use borrow.Author.Tests.{lt-ltb, le-ltb}
use Rattle.words.specs.Words.{bytes_of, put_word}
use Rattle.words.proofs.Laws.{length-bytes_of}
use Rattle.diagram.specs.Answer.{value, refusal}
use Rattle.diagram.specs.Reading.{record_of}
use Rattle.tables.specs.Writing.{fitted}
use Rattle.tables.proofs.WritingLaws.{empty_table}
use Rattle.tables.specs.Inner.{Writes}
use Rattle.tables.proofs.Writes.{writes_refused, writes_bytes}

module _ (n : ℕ) (few : n ≤ 63) (out : List ℕ) where
  abbrev none : ℕ → Bool
  none x = false

  -- no room for a header
  pub nothing_short : length out < 8 → Writes n none out (refusal 11 0) out
  unfolding fitted
  nothing_short l = writes_refused n none out 11 0 (rw (empty_table n none few (λ x l. refl), length-bytes_of 8 (n * 2 ^ 58 + 1), lt-ltb (length out) 8 l))

  -- the header is written
  pub nothing_written : 8 ≤ length out → (word : ℕ) → word ≡ record_of n 0 1 → (out' : List ℕ) → out' ≡ put_word out 0 word → Writes n none out (value 8) out'
  unfolding fitted record_of put_word
  nothing_written l word word_is out' out-is =
      let v = n * 2 ^ 58 + 1 in
      let w : word ≡ v = word_is ∙ omega arith in
      writes_bytes n none out (bytes_of 8 v) 8 out' (rw (empty_table n none few (λ x l. refl), length-bytes_of 8 v, le-ltb (length out) 8 l)) (length-bytes_of 8 v)
      (out-is ∙ ap (λ (u : ℕ). bytes_of 8 u ++ drop 8 out) w)
