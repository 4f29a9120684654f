-- The slots' bytes are filled with 0: the set is empty. Assumes nothing.
use Prim.Native.Nat.{ℕ, ◌+◌, ◌-◌, ◌*◌, ◌≤◌, ◌<◌}
use mathlib.Core.Path.{◌≡◌}
use mathlib.Core.List.{List}
use native.Mathlib.Omega.{arith}
use borrow.Author.Rules.{rules}
use borrow.Rule.Slice.PartMut.{put_mid}
use lib.ListN.{length, get_or, replicate}
use Rattle.std.proofs.lemmas.List.{places}
use Rattle.words.specs.Words.{be_at, word_at}
use Rattle.words.proofs.Stores.{be_cong}
use Rattle.keys.specs.Keys.{Cleared}
use Rattle.keys.proofs.Inserting.{empty_keys}

-- words of equal bytes are equal
word_cong : (a b : List ℕ) (k : ℕ) → ((j : ℕ) → 8 * k ≤ j → j < 8 * k + 8 → get_or a j 0 ≡ get_or b j 0) → word_at a k ≡ word_at b k
unfolding word_at
word_cong a b k f = be_cong a b (8 * k) 8 f

-- a word of zeros is 0
word_zero : (a : List ℕ) (k : ℕ) → ((j : ℕ) → 8 * k ≤ j → j < 8 * k + 8 → get_or a j 0 ≡ 0) → word_at a k ≡ 0
unfolding word_at be_at
word_zero a k f =
    omega (arith, f (8 * k) (omega arith) (omega arith), f (8 * k + 1) (omega arith) (omega arith), f (8 * k + 2) (omega arith) (omega arith), f (8 * k + 3) (omega arith) (omega arith), f (8 * k + 4) (omega arith) (omega arith), f (8 * k + 5) (omega arith) (omega arith), f (8 * k + 6) (omega arith) (omega arith), f (8 * k + 7) (omega arith) (omega arith))

module _ (s z : List ℕ) (P : ℕ) (long : 32 * P ≤ length s) (is : z ≡ replicate (24 * P - 16 * P) 0) where
  abbrev t : List ℕ
  t = put_mid (16 * P) (24 * P - 16 * P) s z

  low : (j : ℕ) → j < 16 * P → get_or t j 0 ≡ get_or s j 0
  low j l = rw is (search (rules, places))

  mid : (j : ℕ) → 16 * P ≤ j → j < 24 * P → get_or t j 0 ≡ 0
  mid j l m = rw is (search (rules, places))

  high : (j : ℕ) → 24 * P ≤ j → get_or t j 0 ≡ get_or s j 0
  high j l = rw is (search (rules, places))

  same : length t ≡ length s
  same = rw is (search (rules, places))

  pub cleared : (length t ≡ length s) × Cleared (word_at s) (word_at t) P
  cleared = (
    same,
    record {
      keys = empty_keys (word_at t) P (λ i l. word_zero t (2 * P + i) (λ j m n. mid j (omega arith) (omega arith)));
      before = λ i l. word_cong t s i (λ j m n. low j (omega arith));
      behind = λ i l. word_cong t s i (λ j m n. high j (omega arith));
    },
  )
