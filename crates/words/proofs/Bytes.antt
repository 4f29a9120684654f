-- A list of bytes is determined by its words, and by the number that it spells. Assumes nothing.
use Prim.Native.Nat.{ℕ, zero, suc, ◌+◌, ◌-◌, ◌*◌, ◌/◌, ◌%◌, ◌^◌, ◌≤◌, ◌<◌}
use mathlib.Core.Path.{◌≡◌, sym, ap, ◌∙◌, subst}
use mathlib.Core.List.{List, [], ◌++◌, append-nil}
use native.Mathlib.Omega.{arith}
use native.Mathlib.Nat.{mod-lt, mod-eq_of_lt, div-one, zero-add}
use lib.Dec.{lit<}
use lib.ListN.{length, get_or, get_or-append, get_or-eq_default}
use lib.Seq.{ext_get_or, get_or-append-add}
use Rattle.words.specs.Words.{Bytes, be_at, word_at, bytes_of, words_bytes}
use Rattle.words.proofs.Cases.{less, same, more, tri}
use Rattle.words.proofs.Laws.{be_fits, length-bytes_of, be-bytes_of, words_at}

-- bytes that spell the same number are the same
be_inj : (s t : List ℕ) → Bytes s → Bytes t → (at m : ℕ) → be_at s at m ≡ be_at t at m → (i : ℕ) → i < m → get_or s (at + i) 0 ≡ get_or t (at + i) 0
unfolding be_at
be_inj s t p q at zero e i l = absurd (omega arith)
be_inj s t p q at (suc m) e i l =
    let a = p (at + m) in
    let b = q (at + m) in
    elim (tri i m) [ less r ↦ be_inj s t p q at m (omega arith) i r | same r ↦ rw r (omega arith) | more r ↦ absurd (omega arith) ]

-- bytes of m words that agree word by word are the same
pub words_inj : (s t : List ℕ) → Bytes s → Bytes t → (m : ℕ) → length s ≡ 8 * m → length t ≡ 8 * m → ((k : ℕ) → k < m → word_at s k ≡ word_at t k) → s ≡ t
unfolding word_at
words_inj s t p q m a b e =
    ext_get_or 0 s t (a ∙ sym b) λ i l.
    let r : 8 * (i / 8) + i % 8 ≡ i = omega arith in
    subst (λ (j : ℕ). get_or s j 0 ≡ get_or t j 0) r (be_inj s t p q (8 * (i / 8)) 8 (e (i / 8) (omega arith)) (i % 8) (omega arith))

-- what a number is written as is bytes
pub bytes-bytes_of : (m v : ℕ) → Bytes (bytes_of m v)
unfolding bytes_of
bytes-bytes_of zero v i = lit< tt
bytes-bytes_of (suc m) v zero = mod-lt (v / 256 ^ m) (lit< tt)
bytes-bytes_of (suc m) v (suc i) = bytes-bytes_of m v i

-- a number below 256 ^ m is what its m bytes spell
spelled : (m v : ℕ) → v < 256 ^ m → be_at (bytes_of m v) 0 m ≡ v
spelled m v l =
    let e : m - m ≡ 0 = omega arith in
    subst (λ (s : List ℕ). be_at s 0 m ≡ v) (append-nil (bytes_of m v))
    (be-bytes_of [] [] m v m (omega arith) ∙ ap (λ (n : ℕ). v / 256 ^ n % 256 ^ m) e ∙ ap (λ (n : ℕ). n % 256 ^ m) (div-one v) ∙ mod-eq_of_lt l)

-- a list of bytes is what the number that it spells is written as
pub bytes_of-number : (l : List ℕ) → Bytes l → bytes_of (length l) (be_at l 0 (length l)) ≡ l
bytes_of-number l p =
    let m = length l in
    let v = be_at l 0 m in
    let n = length-bytes_of m v in
    ext_get_or 0 (bytes_of m v) l n λ i a.
    simp zero-add at (be_inj (bytes_of m v) l (bytes-bytes_of m v) p 0 m (spelled m v (be_fits l p 0 m)) i (omega arith))

-- eight bytes are one word
pub word-bytes_of : (v : ℕ) → v < 2 ^ 64 → word_at (bytes_of 8 v) 0 ≡ v
unfolding word_at
word-bytes_of v l = spelled 8 v l

-- bytes after bytes
bytes_append : (a b : List ℕ) → Bytes a → Bytes b → Bytes (a ++ b)
bytes_append a b p q i = elim (tri i (length a)) [ less l ↦ rw (get_or-append a b 0 i l) (p i) | same l ↦ late (omega arith) | more l ↦ late (omega arith) ]
  where
    late : length a ≤ i → get_or (a ++ b) i 0 < 256
    late l =
        let e : length a + (i - length a) ≡ i = omega arith in
        subst (λ (k : ℕ). get_or (a ++ b) k 0 < 256) e (rw (get_or-append-add a b (i - length a) 0) (q (i - length a)))

-- the words of a run are bytes, and are read back
pub bytes_words : (f : ℕ → ℕ) (m : ℕ) → Bytes (words_bytes f m)
unfolding words_bytes
bytes_words f zero i = lit< tt
bytes_words f (suc m) i = bytes_append (words_bytes f m) (bytes_of 8 (f m)) (bytes_words f m) (bytes-bytes_of 8 (f m)) i

pub word_of_run : (f : ℕ → ℕ) (m k : ℕ) → k < m → f k < 2 ^ 64 → word_at (words_bytes f m) k ≡ f k
word_of_run f m k l b = ap (λ (s : List ℕ). word_at s k) (sym (append-nil (words_bytes f m))) ∙ words_at f m [] k l b

-- the beginning of bytes is bytes
pub bytes_front : (a b : List ℕ) → Bytes (a ++ b) → Bytes a
bytes_front a b p i = elim (tri i (length a)) [
  | less l ↦ rw (← (get_or-append a b 0 i l)) (p i)
  | same l ↦ late (omega arith)
  | more l ↦ late (omega arith)
]
  where
    late : length a ≤ i → get_or a i 0 < 256
    late l = rw (get_or-eq_default a 0 l) (omega arith)
