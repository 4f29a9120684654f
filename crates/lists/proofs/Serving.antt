-- Writing the setups of a list, one after the other, in the terms of the code. Assumes nothing.
use Prim.Native.Nat.{ℕ, ◌+◌, ◌*◌, ◌^◌, ◌≤◌, ◌<◌}
use mathlib.Core.Path.{◌≡◌, sym, ap, ◌∙◌}
use mathlib.Core.List.{List}
use native.Mathlib.Omega.{arith}
use native.Mathlib.Numerals.{add-one}
use lib.ListN.{length}
use Rattle.words.specs.Words.{word_at, put_word, words_over}
use Rattle.words.proofs.Laws.{no_words, put_next, length-words_over}
use Rattle.diagram.specs.Meaning.{under}
use Rattle.diagram.specs.Count.{count_below}
use Rattle.lists.specs.Operations.{setup_at}
use Rattle.trail.specs.Inner.{Trail, Resumes, Reaches}
use Rattle.lists.specs.Inner.{Rising}
use Rattle.lists.proofs.Ranks.{setup_is}
use Rattle.trail.proofs.Keeping.{trail_rise}

-- the setups of the ranks
abbrev found : List ℕ → List ℕ → ℕ → ℕ → ℕ → ℕ
found t ranks n root = setup_at (word_at ranks) n (under (word_at t) root)

-- the setups of the first i of m ranks are written, and the way to a rank that is not above the others is kept
pub record Serves (t s ranks : List ℕ) (n root m : ℕ) (setups₀ : List ℕ) (i : ℕ) (setups edges ends : List ℕ) (x : ℕ) : Type 0 where
  pub asked : ℕ
  pub rises : (j : ℕ) → i ≤ j → j < m → asked ≤ word_at ranks j
  pub trail : Trail t s n root asked edges ends 0 x
  pub written : setups ≡ words_over (found t ranks n root) i setups₀

module _ (t s ranks : List ℕ) (n root m : ℕ) (setups₀ edges ends : List ℕ) (x : ℕ) where
  -- at first none is
  pub serves_first : Trail t s n root 0 edges ends 0 x → Serves t s ranks n root m setups₀ 0 setups₀ edges ends x
  serves_first T = record { asked = 0; rises = λ j l u. omega arith; trail = T; written = no_words (found t ranks n root) setups₀ }

  module _ (i : ℕ) (setups : List ℕ) (S : Serves t s ranks n root m setups₀ i setups edges ends x) (room : 8 * m ≤ length setups₀) where
    pub serves_long : i ≤ m → length setups ≡ length setups₀
    serves_long l = ap length S.written ∙ length-words_over (found t ranks n root) i setups₀ (omega arith)

    -- at last all are
    pub serves_all : i ≤ m → m ≤ i → setups ≡ words_over (found t ranks n root) m setups₀
    serves_all l u = let e : i ≡ m = omega arith in rw (← e) S.written

    module _ (l : i < m) (r : ℕ) (r-is : r ≡ word_at ranks i) where
      pub serves_resumes : r < count_below (under (word_at t) root) (2 ^ n) → Resumes t s n root r edges ends x
      serves_resumes u = record { trail = trail_rise t s n root S.asked edges ends 0 x S.trail r (omega (arith, r-is, S.rises i (omega arith) l)); inside = u }

      -- one more
      pub serves_next : Rising (word_at ranks) m → (edges' ends' : List ℕ) (x' : ℕ) → Reaches t s n root r edges' ends' x' → (setups' : List ℕ) → setups' ≡ put_word setups i x'
          → Serves t s ranks n root m setups₀ (i + 1) setups' edges' ends' x'
      serves_next rises edges' ends' x' R setups' q =
          let f = found t ranks n root in
          let v : x' ≡ f i = setup_is (word_at ranks) n (under (word_at t) root) i x' (rw r-is at R.setup_is) in
          record {
            asked = r;
            rises = λ j p u. omega (arith, r-is, rises i j (omega arith) u);
            trail = R.trail;
            written = q ∙ ap (λ (y : List ℕ). put_word y i x') S.written ∙ ap (put_word (words_over f i setups₀) i) v ∙ put_next f i setups₀ (omega arith) ∙ ap (λ (k : ℕ). words_over f k setups₀) (sym (add-one i));
          }
