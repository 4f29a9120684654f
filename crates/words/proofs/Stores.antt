-- A stored word reads back, and the others stay. Assumes nothing.
use Prim.Native.Nat.{ℕ, zero, suc, ◌+◌, ◌-◌, ◌*◌, ◌^◌, ◌≤◌, ◌<◌}
use mathlib.Core.Path.{◌≡◌, refl, sym, ap, ap₂, subst, ◌∙◌}
use mathlib.Core.Bool.{cond}
use mathlib.Core.List.{List, ◌++◌, append_assoc}
use native.Mathlib.Omega.{arith}
use lib.Dec.{eqb}
use lib.ListN.{length, get_or, set, take, drop, length-append, length-drop, get_or-append}
use lib.Seq.{get_or-append-add, length-take-le, get_or-take, get_or-drop, get_or-set_other}
use borrow.Author.Tests.{eq-eqb, ne_eqb}
use Rattle.words.specs.Words.{be_at, word_at, bytes_of, put_word}
use Rattle.words.proofs.Cases.{less, same, more, tri}
use Rattle.words.proofs.Laws.{length-bytes_of, word_in}

-- W' is W with word k replaced by x
pub record Updated (W W' : ℕ → ℕ) (k x : ℕ) : Type 0 where
  pub here : W' k ≡ x
  pub other : (i : ℕ) → (i ≡ k → ⊥) → W' i ≡ W i

-- such words
unfoldable pub update : (ℕ → ℕ) → ℕ → ℕ → ℕ → ℕ
update W k x i = cond (eqb i k) x (W i)

pub update_is : (W : ℕ → ℕ) (k x : ℕ) → Updated W (update W k x) k x
unfolding update
update_is W k x = record { here = rw (eq-eqb k k refl); other = λ i n. rw (ne_eqb i k n) }

-- equal bytes are equal words
pub be_cong : (a b : List ℕ) (at i : ℕ) → ((j : ℕ) → at ≤ j → j < at + i → get_or a j 0 ≡ get_or b j 0) → be_at a at i ≡ be_at b at i
unfolding be_at
be_cong a b at zero f = refl
be_cong a b at (suc i) f = ap₂ (λ (x y : ℕ). 256 * x + y) (be_cong a b at i (λ j l m. f j l (omega arith))) (f (at + i) (omega arith) (omega arith))

module _ (s : List ℕ) (k v : ℕ) (long : 8 * k + 8 ≤ length s) where
  -- the bytes up to the end of the word
  front : length (take (8 * k) s ++ bytes_of 8 v) ≡ 8 * k + 8
  front = length-append (take (8 * k) s) (bytes_of 8 v) ∙ ap₂ ◌+◌ (length-take-le (8 * k) s (omega arith)) (length-bytes_of 8 v)

  -- the length stays
  pub length-put : length (put_word s k v) ≡ length s
  unfolding put_word
  length-put = length-append (take (8 * k) s ++ bytes_of 8 v) (drop (8 * k + 8) s) ∙ omega (arith, front, length-drop (8 * k + 8) s)

  -- so do the bytes before the word, and behind it
  byte_low : (j : ℕ) → j < 8 * k → get_or (put_word s k v) j 0 ≡ get_or s j 0
  unfolding put_word
  byte_low j l =
      get_or-append (take (8 * k) s ++ bytes_of 8 v) (drop (8 * k + 8) s) 0 j (omega (arith, front))
      ∙ get_or-append (take (8 * k) s) (bytes_of 8 v) 0 j (omega (arith, length-take-le (8 * k) s (omega arith)))
      ∙ get_or-take (8 * k) s j 0 l

  byte_high : (i : ℕ) → get_or (put_word s k v) (8 * k + 8 + i) 0 ≡ get_or s (8 * k + 8 + i) 0
  unfolding put_word
  byte_high i =
      ap (λ (m : ℕ). get_or (put_word s k v) (m + i) 0) (sym front) ∙ get_or-append-add (take (8 * k) s ++ bytes_of 8 v) (drop (8 * k + 8) s) i 0 ∙ get_or-drop (8 * k + 8) s i 0

  -- so do the other words
  word_other : (i : ℕ) → (i ≡ k → ⊥) → word_at (put_word s k v) i ≡ word_at s i
  unfolding word_at
  word_other i n = be_cong (put_word s k v) s (8 * i) 8 (λ j l m. elim (tri i k) [
    | less q ↦ byte_low j (omega arith)
    | same q ↦ absurd (n q)
    | more q ↦ let e : 8 * k + 8 + (j - (8 * k + 8)) ≡ j = omega arith in subst (λ (b : ℕ). get_or (put_word s k v) b 0 ≡ get_or s b 0) e (byte_high (j - (8 * k + 8)))
  ])

  -- the word reads back
  word_same : v < 2 ^ 64 → word_at (put_word s k v) k ≡ v
  unfolding put_word
  word_same l = rw append_assoc (word_in (take (8 * k) s) (drop (8 * k + 8) s) k v (length-take-le (8 * k) s (omega arith)) l)

  -- both at once
  pub put_updated : v < 2 ^ 64 → Updated (word_at s) (word_at (put_word s k v)) k v
  put_updated l = record { here = word_same l; other = word_other }

-- a word stays where a byte behind it is set
pub word_set : (s : List ℕ) (i b k : ℕ) → 8 * k + 8 ≤ i → word_at (set s i b) k ≡ word_at s k
unfolding word_at
word_set s i b k l = be_cong (set s i b) s (8 * k) 8 (λ j m n. get_or-set_other s i j b 0 (λ e. omega arith))

-- a store, by what it left
module _ (s t : List ℕ) (k v : ℕ) (is : t ≡ put_word s k v) (long : 8 * k + 8 ≤ length s) where
  pub stored : v < 2 ^ 64 → Updated (word_at s) (word_at t) k v
  stored l = subst (λ (x : List ℕ). Updated (word_at s) (word_at x) k v) (sym is) (put_updated s k v long l)

  pub stored_long : length t ≡ length s
  stored_long = ap length is ∙ length-put s k v long

  -- a byte stays where it lies behind
  pub stored_byte : (j : ℕ) → 8 * k + 8 ≤ j → get_or t j 0 ≡ get_or s j 0
  stored_byte j l =
      let e : 8 * k + 8 + (j - (8 * k + 8)) ≡ j = omega arith in
      ap (λ (x : List ℕ). get_or x j 0) is ∙ subst (λ (b : ℕ). get_or (put_word s k v) b 0 ≡ get_or s b 0) e (byte_high s k v long (j - (8 * k + 8)))
