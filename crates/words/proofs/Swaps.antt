-- The library's bytes of a number are the bytes of a word, and its chunks of eight bytes are the words. Assumes nothing.
use Prim.Native.Nat.{ℕ, zero, suc, ◌+◌, ◌-◌, ◌*◌, ◌≤◌, ◌<◌}
use mathlib.Core.Path.{◌≡◌, refl, sym, ap, ap₂, ◌∙◌, subst}
use mathlib.Core.List.{List, ◌++◌, append_assoc}
use native.Mathlib.Omega.{arith}
use native.Mathlib.Nat.{mod-lt, div-one, add-zero}
use lib.Dec.{lit<}
use borrow.Rule.Slice.PartMut.{put_mid}
use lib.ListN.{length, get_or, take, drop, length-take, length-drop, get_or-eq_default}
use lib.Seq.{get_or-take, get_or-drop, drop-drop, length-take-le}
use Rattle.std.specs.Int.{w64, bytes_low_first, from_le_bytes, from_be_bytes, to_le_bytes, to_be_bytes}
use Rattle.std.proofs.lemmas.Nat.{le_bytes_8, be_bytes_8, from_be_bytes-to_be_bytes_8}
use Rattle.words.specs.Words.{Bytes, be_at, word_at, bytes_of, put_word}
use Rattle.words.specs.Swap.{swap}
use Rattle.words.proofs.Cases.{less, same, more, tri}
use Rattle.words.proofs.Bytes.{bytes-bytes_of}

-- byte i of word k
byte_in : (l : List ℕ) (k i : ℕ) → i < 8 → get_or (take 8 (drop (8 * k) l)) i 0 ≡ get_or l (8 * k + i) 0
byte_in l k i h = get_or-take 8 (drop (8 * k) l) i 0 h ∙ get_or-drop (8 * k) l i 0

-- word k, by its chunk
word_chunk : (l : List ℕ) (k : ℕ) → from_be_bytes w64 (take 8 (drop (8 * k) l)) ≡ word_at l k
unfolding word_at be_at
word_chunk l k =
    let b = byte_in l k in
    rw (b 0 (lit< tt), b 1 (lit< tt), b 2 (lit< tt), b 3 (lit< tt), b 4 (lit< tt), b 5 (lit< tt), b 6 (lit< tt), b 7 (lit< tt)) (simp add-zero (omega arith))

-- a part of bytes is bytes
bytes_take : (n m : ℕ) (l : List ℕ) → Bytes l → Bytes (take n (drop m l))
bytes_take n m l f i = elim (tri i n) [
  | less h ↦ rw (get_or-take n (drop m l) i 0 h, get_or-drop m l i 0) (f (m + i))
  | same h ↦ late (omega arith)
  | more h ↦ late (omega arith)
]
  where
    late : n ≤ i → get_or (take n (drop m l)) i 0 < 256
    late h = rw (get_or-eq_default (take n (drop m l)) 0 {n = i} (omega (arith, length-take n (drop m l)))) (lit< tt)

-- what the code loads, of the eight bytes of word k
pub swap_load : (l : List ℕ) (k m v : ℕ) (chunk : List ℕ) → Bytes l → 8 * k + 8 ≤ length l → m ≡ 8 → chunk ≡ take m (drop (8 * k) l) → v ≡ from_le_bytes w64 chunk → swap v ≡ word_at l k
unfolding swap
swap_load l k m v chunk f h m-is is e =
    let here : chunk ≡ take 8 (drop (8 * k) l) = is ∙ ap (λ (i : ℕ). take i (drop (8 * k) l)) m-is in
    let long : length (take 8 (drop (8 * k) l)) ≡ 8 = length-take-le 8 (drop (8 * k) l) (omega (arith, length-drop (8 * k) l)) in
    ap (from_be_bytes w64) (le_bytes_8 (take 8 (drop (8 * k) l)) v long (bytes_take 8 (8 * k) l f) (e ∙ ap (from_le_bytes w64) here)) ∙ word_chunk l k

-- what a number is written as
bytes_of-be : (v : ℕ) → bytes_of 8 v ≡ to_be_bytes w64 v
unfolding bytes_of
bytes_of-be v = simp div-one

bytes_low : (i m v : ℕ) → Bytes (bytes_low_first i m v)
bytes_low i zero v j = lit< tt
bytes_low zero (suc m) v zero = mod-lt _ (lit< tt)
bytes_low (suc i) (suc m) v zero = mod-lt _ (lit< tt)
bytes_low i (suc m) v (suc j) = bytes_low (suc i) m v j

-- ... turned over
bytes_of-swap : (v : ℕ) → bytes_of 8 (swap v) ≡ to_le_bytes w64 v
unfolding swap
bytes_of-swap v = bytes_of-be (swap v) ∙ be_bytes_8 (to_le_bytes w64 v) (swap v) refl (bytes_low 0 8 v) refl

-- what the code stores, into eight bytes
pub swap_store : (l bytes : List ℕ) (k v : ℕ) → bytes ≡ to_le_bytes w64 v → put_mid (8 * k) (8 * k + 8 - 8 * k) l bytes ≡ put_word l k (swap v)
unfolding put_word
swap_store l bytes k v is =
    let e : 8 * k + (8 * k + 8 - 8 * k) ≡ 8 * k + 8 = omega arith in
    rw append_assoc
    (ap₂ (λ (x y : List ℕ). take (8 * k) l ++ (x ++ y)) (is ∙ sym (bytes_of-swap v)) (drop-drop (8 * k + 8 - 8 * k) (8 * k) l ∙ ap (λ (i : ℕ). drop i l) e))

-- turned over twice, the bytes are as they were
pub swap_swap : (v : ℕ) → v < 18446744073709551616 → swap (swap v) ≡ v
unfolding swap
swap_swap v l =
    let turned : swap v ≡ from_le_bytes w64 (to_be_bytes w64 v) = omega arith in
    ap (from_be_bytes w64) (le_bytes_8 (to_be_bytes w64 v) (swap v) refl (subst Bytes (bytes_of-be v) (bytes-bytes_of 8 v)) turned) ∙ from_be_bytes-to_be_bytes_8 v l

-- a number turned over fits, too
pub swap_fits : (v : ℕ) → swap v < 18446744073709551616
unfolding swap
swap_fits v = omega arith
