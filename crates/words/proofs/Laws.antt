-- Laws of words in bytes: what is read where words were written. Assumes nothing.
use Prim.Native.Nat.{ℕ, zero, suc, ◌+◌, ◌-◌, ◌*◌, ◌/◌, ◌%◌, ◌^◌, ◌≤◌, ◌<◌}
use mathlib.Core.Path.{◌≡◌, refl, sym, ap, ap₂, ◌∙◌, subst}
use mathlib.Core.List.{List, ◌++◌, append_assoc}
use native.Mathlib.Omega.{arith}
use native.Mathlib.Nat.{div-div-eq-div-mul, pow-suc, mod-eq_of_lt, mod-one, div-one, one-le-pow}
use lib.Dec.{lit<}
use lib.Arith.{mod-mul}
use lib.ListN.{length, get_or, take, drop, replicate, replicate-append-replicate, length-append, length-drop, get_or-append}
use lib.Seq.{length-take-le, get_or-append-add, get_or-drop, take_at, drop_at, drop-drop, drop-append-add}
use Rattle.words.specs.Words.{Bytes, be_at, word_at, bytes_of, put_word, words_bytes, words_over}
use Rattle.words.proofs.Cases.{less, same, more, tri}

-- the words from word m on
pub word_drop : (l : List ℕ) (m k : ℕ) → word_at (drop (8 * m) l) k ≡ word_at l (m + k)
unfolding word_at be_at
word_drop l m k = go 8 ∙ ap (λ (i : ℕ). be_at l i 8) (omega arith)
  where
    go : (i : ℕ) → be_at (drop (8 * m) l) (8 * k) i ≡ be_at l (8 * m + 8 * k) i
    go zero = refl
    go (suc i) = let e : 8 * m + (8 * k + i) ≡ 8 * m + 8 * k + i = omega arith in rw (go i, get_or-drop (8 * m) l (8 * k + i) 0, e)

-- a word of bytes fits 64 bits
pub be_fits : (l : List ℕ) → Bytes l → (at m : ℕ) → be_at l at m < 256 ^ m
unfolding be_at
be_fits l f at zero = lit< tt
be_fits l f at (suc m) = rw (pow-suc 256 m) (omega (arith, be_fits l f at m, f (at + m)))

pub word_fits : (l : List ℕ) (k : ℕ) → Bytes l → word_at l k < 2 ^ 64
unfolding word_at
word_fits l k f = be_fits l f (8 * k) 8

pub length-bytes_of : (m v : ℕ) → length (bytes_of m v) ≡ m
unfolding bytes_of
length-bytes_of zero v = refl
length-bytes_of (suc m) v = ap suc (length-bytes_of m v)

get_or-bytes_of : (m v i : ℕ) → i < m → get_or (bytes_of m v) i 0 ≡ v / 256 ^ (m - suc i) % 256
unfolding bytes_of
get_or-bytes_of zero v i l = absurd (omega arith)
get_or-bytes_of (suc m) v zero l = let e : suc m - 1 ≡ m = omega arith in rw e
get_or-bytes_of (suc m) v (suc i) l = let e : suc m - suc (suc i) ≡ m - suc i = omega arith in rw e (get_or-bytes_of m v i (omega arith))

-- the first i of the m bytes of v, read back
pub be-bytes_of : (p q : List ℕ) (m v i : ℕ) → i ≤ m → be_at (p ++ (bytes_of m v ++ q)) (length p) i ≡ v / 256 ^ (m - i) % 256 ^ i
unfolding be_at
be-bytes_of p q m v zero l = sym (mod-one (v / 256 ^ (m - 0)))
be-bytes_of p q m v (suc i) l =
    let u = v / 256 ^ (m - suc i) in
    let e : m - i ≡ suc (m - suc i) = omega arith in
    let b : get_or (p ++ (bytes_of m v ++ q)) (length p + i) 0 ≡ u % 256 =
    get_or-append-add p (bytes_of m v ++ q) i 0 ∙ get_or-append (bytes_of m v) q 0 i (subst (λ (n : ℕ). i < n) (sym (length-bytes_of m v)) l) ∙ get_or-bytes_of m v i l in
    let a : be_at (p ++ (bytes_of m v ++ q)) (length p) i ≡ u / 256 % 256 ^ i =
    be-bytes_of p q m v i (omega arith)
    ∙ ap (λ (n : ℕ). n % 256 ^ i) (ap (λ (n : ℕ). v / 256 ^ n) e ∙ ap (λ (n : ℕ). v / n) (pow-suc 256 (m - suc i)) ∙ sym (div-div-eq-div-mul v (256 ^ (m - suc i)) 256)) in
    let c : u % 256 ^ suc i ≡ u / 256 % 256 ^ i * 256 + u % 256 = ap (λ (n : ℕ). u % n) (pow-suc 256 i) ∙ mod-mul u (one-le-pow i 256 (lit< tt)) (lit< tt) in
    omega arith

-- a word between other bytes
pub word_in : (p q : List ℕ) (k v : ℕ) → length p ≡ 8 * k → v < 2 ^ 64 → word_at (p ++ (bytes_of 8 v ++ q)) k ≡ v
unfolding word_at
word_in p q k v e l =
    subst (λ (n : ℕ). be_at (p ++ (bytes_of 8 v ++ q)) n 8 ≡ v) e (be-bytes_of p q 8 v 8 (omega arith) ∙ ap (λ (n : ℕ). n % 256 ^ 8) (div-one v) ∙ mod-eq_of_lt l)

pub length-words_bytes : (f : ℕ → ℕ) (m : ℕ) → length (words_bytes f m) ≡ 8 * m
unfolding words_bytes
length-words_bytes f zero = refl
length-words_bytes f (suc m) = length-append (words_bytes f m) (bytes_of 8 (f m)) ∙ omega (arith, length-words_bytes f m, length-bytes_of 8 (f m))

pub length-words_over : (f : ℕ → ℕ) (m : ℕ) (s : List ℕ) → 8 * m ≤ length s → length (words_over f m s) ≡ length s
unfolding words_over
length-words_over f m s l = length-append (words_bytes f m) (drop (8 * m) s) ∙ omega (arith, length-words_bytes f m, length-drop (8 * m) s)

-- no words: the memory as it was
pub no_words : (f : ℕ → ℕ) (s : List ℕ) → s ≡ words_over f 0 s
unfolding words_over words_bytes
no_words f s = refl

-- words of 0: bytes of 0
zeros : (m : ℕ) → replicate (8 * m) 0 ≡ words_bytes (λ _. 0) m
unfolding words_bytes bytes_of
zeros zero = refl
zeros (suc m) =
    let e : 8 * suc m ≡ 8 * m + 8 = omega arith in
    ap (λ (i : ℕ). replicate i 0) e ∙ sym (replicate-append-replicate (8 * m) 8 0) ∙ ap (λ (l : List ℕ). l ++ replicate 8 0) (zeros m)

pub words_of_zeros : (m : ℕ) (s front : List ℕ) → 8 * m ≤ length s → front ≡ replicate (length (take (8 * m) s)) 0 → front ++ drop (8 * m) s ≡ words_over (λ _. 0) m s
unfolding words_over
words_of_zeros m s front l e = ap (λ (p : List ℕ). p ++ drop (8 * m) s) (e ∙ ap (λ (i : ℕ). replicate i 0) (length-take-le (8 * m) s l) ∙ zeros m)

-- a run of words over a shorter one
pub over_over : (f g : ℕ → ℕ) (m m' : ℕ) (s : List ℕ) → m ≤ m' → words_over f m' (words_over g m s) ≡ words_over f m' s
unfolding words_over
over_over f g m m' s l =
    let p = words_bytes g m in
    let e : 8 * m' ≡ 8 * m + (8 * m' - 8 * m) = omega arith in
    let q : drop (8 * m') (p ++ drop (8 * m) s) ≡ drop (8 * m') s =
    ap (λ (n : ℕ). drop n (p ++ drop (8 * m) s)) (e ∙ ap (λ (n : ℕ). n + (8 * m' - 8 * m)) (sym (length-words_bytes g m)))
    ∙ drop-append-add p (drop (8 * m) s) (8 * m' - 8 * m) ∙ drop-drop (8 * m' - 8 * m) (8 * m) s ∙ ap (λ (n : ℕ). drop n s) (sym e) in
    ap (λ (r : List ℕ). words_bytes f m' ++ r) q

-- a run of words over other bytes of the same length, or shorter
pub over_front : (f : ℕ → ℕ) (m k : ℕ) (front s : List ℕ) → length front ≡ k → k ≤ 8 * m → words_over f m (front ++ drop k s) ≡ words_over f m s
unfolding words_over
over_front f m k front s e l =
    let j = 8 * m - k in
    let a : length front + j ≡ 8 * m = omega arith in
    let b : k + j ≡ 8 * m = omega arith in
    ap (words_bytes f m ++◌) (ap (λ (i : ℕ). drop i (front ++ drop k s)) (sym a) ∙ drop-append-add front (drop k s) j ∙ drop-drop j k s ∙ ap (λ (i : ℕ). drop i s) b)

-- one more word of a run
pub put_next : (f : ℕ → ℕ) (m : ℕ) (s : List ℕ) → 8 * m + 8 ≤ length s → put_word (words_over f m s) m (f m) ≡ words_over f (suc m) s
unfolding put_word words_over words_bytes
put_next f m s l =
    let p = words_bytes f m in
    let a = length-words_bytes f m in
    let r : 8 * m + 8 ≡ 8 * suc m = omega arith in
    let e : drop (8 * m + 8) (p ++ drop (8 * m) s) ≡ drop (8 * suc m) s =
    sym (drop-drop 8 (8 * m) (p ++ drop (8 * m) s)) ∙ ap (drop 8) (drop_at p (drop (8 * m) s) (8 * m) a) ∙ drop-drop 8 (8 * m) s ∙ ap (λ (n : ℕ). drop n s) r in
    ap₂ (λ (x y : List ℕ). x ++ bytes_of 8 (f m) ++ y) (take_at p (drop (8 * m) s) (8 * m) a) e

-- the words of a run read back
pub words_at : (f : ℕ → ℕ) (m : ℕ) (q : List ℕ) (k : ℕ) → k < m → f k < 2 ^ 64 → word_at (words_bytes f m ++ q) k ≡ f k
unfolding words_bytes
words_at f zero q k l b = absurd (omega arith)
words_at f (suc m) q k l b =
    rw append_assoc
    (elim (tri k m) [
      | less i ↦ words_at f m (bytes_of 8 (f m) ++ q) k i b
      | same i ↦ rw i (word_in (words_bytes f m) q m (f m) (length-words_bytes f m) (subst (λ (n : ℕ). f n < 2 ^ 64) i b))
      | more i ↦ absurd (omega arith)
    ])

pub words_read : (f : ℕ → ℕ) (m : ℕ) (s : List ℕ) (k : ℕ) → k < m → f k < 2 ^ 64 → word_at (words_over f m s) k ≡ f k
unfolding words_over
words_read f m s k l b = words_at f m (drop (8 * m) s) k l b
