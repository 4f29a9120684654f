-- What becomes of a diagram that is built: too many records, too little room, or the table. Assumes nothing.
use Prim.Native.Nat.{ℕ, ◌+◌, ◌*◌, ◌^◌, ◌≤◌, ◌<◌}
use mathlib.Core.Path.{◌≡◌, ◌∙◌}
use mathlib.Core.Bool.{Bool}
use mathlib.Core.List.{List, ◌++◌}
use lib.ListN.{length, drop}
use Rattle.words.specs.Words.{Bytes}
use Rattle.diagram.specs.Format.{Words}
use Rattle.diagram.specs.Meaning.{under}
use Rattle.diagram.specs.Answer.{value, refusal}
use Rattle.diagram.specs.Reading.{record_of}
use Rattle.tables.proofs.WritingLaws.{answer_16, answer_11, answer_bytes}
use Rattle.numbering.specs.Renewal.{image}
use Rattle.numbering.specs.Numbered.{Finished}
use Rattle.emitting.specs.Emitting.{HoldsRecords}
use Rattle.emitting.proofs.Numbers.{records_all}
use Rattle.tables.specs.Inner.{Writes}
use Rattle.writing.specs.Inner.{between, IsBuilt}
use Rattle.tables.proofs.Writes.{writes_refused, writes_bytes}

module _ (w : Words) (n N r lo hi : ℕ) (R W : Words) (c e : ℕ) (B : IsBuilt w n N r lo hi R W c e) (out : List ℕ) where
  abbrev P : ℕ → Bool
  P = between (under w r) lo hi

  F : Finished R W n (N + n + n) c e
  F = B.finished

  means : (x : ℕ) → x < 2 ^ n → under F.list (image W e) x ≡ P x
  means x l = F.means x ∙ B.means x l

  -- rule 16
  pub too_many : 65535 < c → Writes n P out (refusal 16 0) out
  too_many l = writes_refused n P out 16 0 (answer_16 n P F.list c (image W e) F.proper F.root_node means (length out) l)

  module _ (few : c ≤ 65535) where
    -- rule 11
    pub no_room : n ≤ 63 → length out < 8 * (c + 1) → Writes n P out (refusal 11 0) out
    no_room m l = writes_refused n P out 11 0 (answer_11 n P F.list c (image W e) F.proper F.root_node means few m (length out) l)

    -- or the table is written
    pub wrote : (bytes out' : List ℕ) → Bytes bytes → length bytes ≡ 8 * (c + 1) → 8 * (c + 1) ≤ length out → HoldsRecords R W (N + n + n) (record_of n c (image W e)) bytes
        → out' ≡ bytes ++ drop (8 * (c + 1)) out → Writes n P out (value (8 * (c + 1))) out'
    wrote bytes out' b long l G o =
        writes_bytes n P out bytes (8 * (c + 1)) out'
        (answer_bytes n P F.list c (image W e) F.proper F.root_node means few bytes b long G.first (records_all R W n (N + n + n) c e F (record_of n c (image W e)) bytes G) (length out) l)
        long o
