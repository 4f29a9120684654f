-- A node's new record, and what the node is given, in the terms of the code. Assumes nothing.
use Prim.Native.Nat.{ℕ, zero, suc, ◌+◌, ◌-◌, ◌*◌, ◌/◌, ◌%◌, ◌≤◌, ◌<◌}
use mathlib.Core.Path.{◌≡◌, refl, sym, ◌∙◌}
use mathlib.Core.Bool.{Bool, true, false}
use mathlib.Core.List.{List}
use native.Mathlib.Omega.{arith}
use lib.Dec.{eqb}
use lib.ListN.{length}
use Rattle.std.specs.Int.{from_bool}
use Rattle.words.specs.Words.{word_at, put_word}
use Rattle.words.proofs.Cases.{less, same, more, tri}
use Rattle.diagram.specs.Format.{Words, middle_field, low_field, then_edge, else_edge}
use Rattle.diagram.specs.Reading.{HasFields, turn, record_of}
use Rattle.diagram.proofs.Paths.{side_node}
use Rattle.numbering.specs.Renewal.{image, normal, renew, Renewable, StaysPlain, Readable, IsKey, Counted, same_record, new_record, given_edge, given_number, Gave, stored}
use Rattle.numbering.specs.Numbered.{Keyed}
use Rattle.numbering.proofs.Images.{image_small}

-- a flag as a number
pub flag_low : (f : Bool) → from_bool f < 2
flag_low true = omega arith
flag_low false = omega arith

flag_number : (a : ℕ) → from_bool (eqb (a % 2) 1) ≡ a % 2
flag_number a = elim (tri 1 (a % 2)) [ less q ↦ absurd (omega arith) | same q ↦ rw (← q) refl | more q ↦ let e : a % 2 ≡ 0 = omega arith in rw e refl ]

-- the image of edge e to node k, where a plain one becomes a
pub image_is : (W : Words) (e k a r : ℕ) → k ≡ e / 2 → a ≡ W k - 1 → r ≡ turn (e % 2) a → r ≡ image W e
unfolding image
image_is W e k a r k-is a-is q = q ∙ rw (a-is, k-is)

-- the new record of a diagram's node can be read off
pub keyed_readable : (R : Words) (map : List ℕ) (n M : ℕ) → Keyed R (word_at map) n M → 8 * M + 8 ≤ length map → (v z : ℕ) → 0 < v → v ≤ M → z ≡ R v → Readable map v z
unfolding then_edge else_edge
keyed_readable R map n M K long zero z p l e = absurd (omega arith)
keyed_readable R map n M K long (suc v) z p l e =
    let a = side_node R n M K.ordered true v l in
    let b = side_node R n M K.ordered false v l in
    rw e (record {
      room = omega arith;
      kept = λ k. record {
        then_room = omega arith;
        else_room = omega arith;
        then_live = K.closed.closed_then v l k;
        else_live = K.closed.closed_else v l k;
        then_small = K.small (then_edge R (suc v) / 2) (omega arith);
        else_small = K.small (else_edge R (suc v) / 2) (omega arith);
      };
    })

-- the nodes of the fields t and e of record z are in the map, and kept
module _ (map : List ℕ) (z h t e : ℕ) (N : Renewable map z) (F : HasFields z h t e) where
  pub then_there : (8 * (t / 2) + 8 ≤ length map) × (0 < word_at map (t / 2))
  then_there = rw F.middle_is (N.then_room, N.then_live)

  pub else_there : (8 * (e / 2) + 8 ≤ length map) × (0 < word_at map (e / 2))
  else_there = rw F.low_is (N.else_room, N.else_live)

-- the fields h, t and e of record z; a and b are what t and e become
module _ (map : List ℕ) (z h t e a b : ℕ) (N : Renewable map z) (F : HasFields z h t e)
    (a-is : a ≡ image (word_at map) t) (b-is : b ≡ image (word_at map) e) where
  abbrev W : Words
  W = word_at map

  -- the fields fit a word
  pub key_fits : (h ≤ 63) × (a < 536870912) × (b < 536870912)
  key_fits = (
    F.high_fits,
    rw (a-is, F.middle_is) (image_small W (middle_field z) 268435456 (omega (arith, N.then_small))),
    rw (b-is, F.low_is) (image_small W (low_field z) 268435456 (omega (arith, N.else_small))),
  )

  -- the word of these fields is the new record
  renew_is : (word : ℕ) → word ≡ normal h a b → word ≡ renew W z
  unfolding renew
  renew_is word q = q ∙ rw (a-is, b-is, F.high_is, F.middle_is, F.low_is)

  -- ... and the key of a node that is kept
  pub key_is : (v word : ℕ) → 0 < W v → word ≡ normal h a b → (f : Bool) → f ≡ eqb (a % 2) 1 → IsKey W v z word (from_bool f)
  key_is v word live q f f_is = record {
    dead = λ k. absurd (omega arith);
    word_is = λ k. renew_is word q;
    flag_is = λ k. rw f_is (flag_number a ∙ rw (a-is, F.middle_is));
    flag_low = flag_low f;
  }

-- the same where the then-edge stays plain, so that no flag is taken out
module _ (map : List ℕ) (z h t e k a b : ℕ) (N : Renewable map z) (P : StaysPlain (word_at map) z) (F : HasFields z h t e)
    (k-is : k ≡ t / 2) (a-is : a ≡ word_at map k - 1) (b-is : b ≡ image (word_at map) e) where
  a_odd : word_at map k % 2 ≡ 1
  a_odd = rw (k-is, F.middle_is) P.stays

  a_image : a ≡ image (word_at map) t
  unfolding turn
  a_image = let f : t % 2 ≡ 0 = rw F.middle_is P.plain in image_is (word_at map) t k a a k-is a-is (rw f refl)

  -- a plain edge has no flag to take out
  plain_normal : record_of h a b ≡ normal h a b
  unfolding normal turn
  plain_normal =
      let f : a % 2 ≡ 0 = omega (arith, a_odd) in
      let g : 2 * (a / 2) ≡ a = omega (arith, a_odd) in
      rw (f, g)

  pub plain_fits : (h ≤ 63) × (a < 536870912) × (b < 536870912)
  plain_fits = key_fits map z h t e a b N F a_image b-is

  pub plain_is : (word : ℕ) → word ≡ record_of h a b → word ≡ renew (word_at map) z
  plain_is word q = renew_is map z h t e a b N F a_image b-is word (q ∙ plain_normal)

-- node v's place holds m: it is kept
pub place_live : (map : List ℕ) (v m : ℕ) → m ≡ word_at map v → (m ≡ 0 → ⊥) → 0 < word_at map v
place_live map v m m-is some = omega (arith, m-is, some)

-- an edge of a record fits its field
pub field_small : (word h t e : ℕ) → HasFields word h t e → t < 536870912
unfolding middle_field
field_small word h t e F = omega (arith, F.middle_is)

-- the new record `word` of node v has the fields h, t and e; t and e are equal
pub gave_edge : (map map' : List ℕ) (v word flag count last h t e : ℕ) → (word ≡ 0 → ⊥) → HasFields word h t e → flag < 2 → t ≡ e → map' ≡ put_word map v (1 + t + flag)
    → Gave map map' v word flag count last count last
gave_edge map map' v word flag count last h t e some F low q p =
    stored (1 + t + flag) some (omega (arith, field_small word h t e F)) p (given_edge (sym F.middle_is ∙ q ∙ F.low_is) (omega (arith, F.middle_is)) refl refl)

-- they differ
pub fields_differ : (word h t e : ℕ) → HasFields word h t e → (t ≡ e → ⊥) → middle_field word ≡ low_field word → ⊥
fields_differ word h t e F n q = n (F.middle_is ∙ q ∙ sym F.low_is)

-- there is at most one record more
pub counted_few : {word count last count' last' : ℕ} → Counted word count last count' last' → count' ≤ count + 1
counted_few (same_record a b c) = omega arith
counted_few (new_record a b c) = omega arith

-- the node gets the number of its record
pub gave_number : (map map' : List ℕ) (v word flag count last count' last' : ℕ) → (word ≡ 0 → ⊥) → (middle_field word ≡ low_field word → ⊥) → flag < 2 → count < 268435454
    → Counted word count last count' last' → map' ≡ put_word map v (1 + 2 * count' + flag) → Gave map map' v word flag count last count' last'
gave_number map map' v word flag count last count' last' some differ low few C p = stored (1 + 2 * count' + flag) some (omega (arith, counted_few C)) p (given_number differ refl C)
