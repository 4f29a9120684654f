-- The fields of a word, as the code reads them. Assumes nothing.
use Prim.Native.Nat.{ℕ, zero, suc, ◌+◌, ◌*◌, ◌/◌, ◌%◌, ◌^◌, ◌<◌}
use mathlib.Core.Path.{◌≡◌, refl, sym, ap, ap₂, ◌∙◌}
use mathlib.Core.List.{List}
use native.Mathlib.Omega.{arith}
use native.Mathlib.Nat.{add-zero, div-div-eq-div-mul}
use lib.ListN.{get_or}
use Rattle.words.specs.Words.{Bytes, be_at, word_at}
use Rattle.diagram.specs.Format.{Words, high_field, middle_field, low_field, settings, nodes, root, height, then_edge, else_edge}
use Rattle.diagram.specs.Reading.{HasFields, IsHeader, IsRecord, record_of}

-- a word is its fields
pub word_fields : (v : ℕ) → v ≡ high_field v * 2 ^ 58 + middle_field v * 2 ^ 29 + low_field v
unfolding high_field middle_field low_field
word_fields v = omega (arith, div-div-eq-div-mul v (2 ^ 29) (2 ^ 29))

pub fields_inj : (a b : ℕ) → high_field a ≡ high_field b → middle_field a ≡ middle_field b → low_field a ≡ low_field b → a ≡ b
fields_inj a b p q r = word_fields a ∙ ap₂ ◌+◌ (ap₂ ◌+◌ (ap (λ c. c * 2 ^ 58) p) (ap (λ c. c * 2 ^ 29) q)) r ∙ sym (word_fields b)

-- a word of a smaller height is smaller
pub word_below : (a b : ℕ) → high_field a < high_field b → a < b
unfolding high_field
word_below a b l = omega arith

-- the height of a node that is not the sink
pub height_node : (w : Words) (k : ℕ) → 0 < k → height w k ≡ high_field (w k)
unfolding height
height_node w zero l = absurd (omega arith)
height_node w (suc k) l = refl

pub height_sink : (w : Words) (k : ℕ) → k ≡ 0 → height w k ≡ 0
unfolding height
height_sink w k e = rw e

pub fields_are : (v : ℕ) → v < 18446744073709551616 → HasFields v (v / 288230376151711744) (v / 536870912 % 536870912) (v % 536870912)
unfolding high_field middle_field low_field
fields_are v l = record {
  high_is = refl;
  middle_is = refl;
  low_is = refl;
  high_fits = omega arith;
}

-- the fields of a word that is made of them
module _ (h t e : ℕ) (lt : t < 536870912) (le : e < 536870912) where
  pub record_high : high_field (record_of h t e) ≡ h
  unfolding record_of high_field
  record_high = omega arith

  pub record_middle : middle_field (record_of h t e) ≡ t
  unfolding record_of middle_field
  record_middle = omega arith

  pub record_low : low_field (record_of h t e) ≡ e
  unfolding record_of low_field
  record_low = omega arith

-- a header, and a record, is the fields of its word
pub fields_header : (w : Words) (v n N e : ℕ) → v ≡ w 0 → HasFields v n N e → IsHeader w n N e
unfolding settings nodes root
fields_header w v n N e q f = record {
  settings_is = f.high_is ∙ ap high_field q;
  nodes_is = f.middle_is ∙ ap middle_field q;
  root_is = f.low_is ∙ ap low_field q;
  few_settings = f.high_fits;
}

pub fields_record : (w : Words) (k v h t e : ℕ) → 0 < k → v ≡ w k → HasFields v h t e → IsRecord w k h t e
unfolding then_edge else_edge
fields_record w k v h t e p q f = record {
  height_is = f.high_is ∙ ap high_field q ∙ sym (height_node w k p);
  then_is = f.middle_is ∙ ap middle_field q;
  else_is = f.low_is ∙ ap low_field q;
  low = f.high_fits;
}

-- the top six bits of a word are those of its first byte
top_byte : (a r : ℕ) → r < 72057594037927936 → (a * 72057594037927936 + r) / 288230376151711744 ≡ a / 4
top_byte a r l = omega arith

rest_fits : (b c d e f g h : ℕ) → b < 256 → c < 256 → d < 256 → e < 256 → f < 256 → g < 256 → h < 256
    → b * 281474976710656 + c * 1099511627776 + d * 4294967296 + e * 16777216 + f * 65536 + g * 256 + h < 72057594037927936
rest_fits b c d e f g h p q r s t u v = omega arith

pub height_byte : (l : List ℕ) (k : ℕ) → 0 < k → Bytes l → get_or l (8 * k) 0 / 4 ≡ height (word_at l) k
unfolding word_at be_at high_field
height_byte l k p f =
    let at : ℕ → ℕ = λ i. get_or l (8 * k + i) 0 in
    let e : word_at l k ≡ get_or l (8 * k) 0 * 72057594037927936
    + (at 1 * 281474976710656 + at 2 * 1099511627776 + at 3 * 4294967296 + at 4 * 16777216 + at 5 * 65536 + at 6 * 256 + at 7) =
    simp add-zero (omega arith) in
    sym (height_node (word_at l) k p ∙ ap (λ (v : ℕ). v / 288230376151711744) e
    ∙ top_byte (get_or l (8 * k) 0) _ (rest_fits (at 1) (at 2) (at 3) (at 4) (at 5) (at 6) (at 7) (f (8 * k + 1)) (f (8 * k + 2)) (f (8 * k + 3)) (f (8 * k + 4)) (f (8 * k + 5)) (f (8 * k + 6)) (f (8 * k + 7))))
