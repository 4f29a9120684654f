-- Writing one node's new record, in the terms of the code. Assumes nothing.
use Prim.Native.Nat.{ℕ, ◌-◌, ◌/◌, ◌%◌, ◌<◌}
use mathlib.Core.Path.{◌≡◌, refl, sym, ap, ◌∙◌}
use mathlib.Core.Bool.{true, false}
use mathlib.Core.List.{List}
use native.Mathlib.Omega.{arith}
use Rattle.words.specs.Words.{word_at, put_word}
use Rattle.words.proofs.Cases.{less, same, more, tri}
use Rattle.diagram.specs.Format.{Words, high_field, middle_field, low_field}
use Rattle.diagram.specs.Reading.{HasFields, turn}
use Rattle.diagram.proofs.Edges.{turn_inj}
use Rattle.numbering.specs.Renewal.{image, renew, Readable, IsKey}
use Rattle.numbering.proofs.Images.{normal_side, image_small}
use Rattle.emitting.specs.Emitting.{record_number, HasRecord, Emitted, quiet, wrote}

-- a plain edge to node v becomes a, an edge to node i
pub number_is : (map : List ℕ) (v a i : ℕ) → a ≡ word_at map v - 1 → i ≡ a / 2 → i ≡ record_number (word_at map) v
unfolding record_number
number_is map v a i a-is i-is = i-is ∙ ap (λ (x : ℕ). x / 2) a-is

-- a node that has a new record, `word`: it is written
pub emit_record : (W : Words) (v z word : ℕ) (out out' : List ℕ) → HasRecord W v z → word ≡ renew W z → word < 18446744073709551616
    → out' ≡ put_word out (record_number W v) word → Emitted W out out' v z
emit_record W v z word out out' O w s q = wrote O (rw (← w) s) (q ∙ ap (put_word out (record_number W v)) w)

-- node v's place holds m: it is left out, and has no new record
pub emit_none : (W : Words) (v z m : ℕ) (out : List ℕ) → m ≡ W v → m ≡ 0 → Emitted W out out v z
emit_none W v z m out m-is none = quiet (λ O. omega (arith, O.live)) refl

-- node v, of record z, becomes a word of fields h, t and e
module _ (map : List ℕ) (v z word flag h t e : ℕ) (N : Readable map v z) (K : IsKey (word_at map) v z word flag) (F : HasFields word h t e) where
  abbrev W : Words
  W = word_at map

  abbrev a : ℕ
  a = image W (middle_field z)

  abbrev b : ℕ
  b = image W (low_field z)

  a_small : 0 < W v → a < 536870912
  a_small l = image_small W (middle_field z) 268435456 (omega (arith, (N.kept l).then_small))

  b_small : 0 < W v → b < 536870912
  b_small l = image_small W (low_field z) 268435456 (omega (arith, (N.kept l).else_small))

  -- its edges are what the old ones become, with one flag taken out of both
  high_is : 0 < W v → t ≡ turn (a % 2) a
  unfolding renew
  high_is l = F.middle_is ∙ ap middle_field (K.word_is l) ∙ normal_side (high_field z) a b (a_small l) (b_small l) true

  low_is : 0 < W v → e ≡ turn (a % 2) b
  unfolding renew
  low_is l = F.low_is ∙ ap low_field (K.word_is l) ∙ normal_side (high_field z) a b (a_small l) (b_small l) false

  has_none : t ≡ e → HasRecord W v z → ⊥
  has_none q O = O.apart (turn_inj (a % 2) a b (sym (high_is O.live) ∙ q ∙ low_is O.live))

  -- the fields of 0 are equal
  none : word ≡ 0 → t ≡ e
  unfolding middle_field low_field
  none q = F.middle_is ∙ rw q refl ∙ sym F.low_is

  -- where the fields differ, the node has a record
  pub has_record : (t ≡ e → ⊥) → HasRecord W v z
  has_record n = record { live = live; apart = λ q. n (high_is live ∙ ap (turn (a % 2)) q ∙ sym (low_is live)) }
    where
      live : 0 < W v
      live = elim (tri 0 (W v)) [ less l ↦ l | same q ↦ absurd (n (none (K.dead (sym q)))) | more l ↦ absurd (omega arith) ]

  -- nothing is written
  pub emit_quiet : (out : List ℕ) → t ≡ e → Emitted W out out v z
  emit_quiet out q = quiet (has_none q) refl

  -- the record is written at its number
  pub emit_wrote : (n : t ≡ e → ⊥) (out out' : List ℕ) → word < 18446744073709551616 → out' ≡ put_word out (record_number W v) word → Emitted W out out' v z
  emit_wrote n out out' = let O = has_record n in emit_record W v z word out out' O (K.word_is O.live)
