-- A node is stored: three words. Assumes nothing.
use Prim.Native.Nat.{ℕ, ◌+◌, ◌*◌, ◌^◌, ◌≤◌, ◌<◌}
use mathlib.Core.Path.{◌≡◌, ◌∙◌}
use mathlib.Core.List.{List}
use native.Mathlib.Omega.{arith}
use lib.ListN.{length}
use Rattle.words.specs.Words.{word_at, put_word}
use Rattle.words.proofs.Stores.{Updated, stored, stored_long, stored_byte}
use Rattle.gathering.specs.Inner.{Laid, MarksStay}

module _ (s a b d : List ℕ) (P v h t e : ℕ) (long : 32 * P ≤ length s) (inside : v < P)
    (a-is : a ≡ put_word s (P + v) t) (b-is : b ≡ put_word a (2 * P + v) h) (d-is : d ≡ put_word b (3 * P + v) e) where
  a_long : length a ≡ length s
  a_long = stored_long s a (P + v) t a-is (omega arith)

  b_long : length b ≡ length s
  b_long = stored_long a b (2 * P + v) h b-is (omega (arith, a_long)) ∙ a_long

  pub laid_long : length d ≡ length s
  laid_long = stored_long b d (3 * P + v) e d-is (omega (arith, b_long)) ∙ b_long

  -- the marks behind the regions stay
  pub laid_marks : MarksStay s d P
  laid_marks u =
      stored_byte b d (3 * P + v) e d-is (omega (arith, b_long)) (32 * P + u) (omega arith)
      ∙ stored_byte a b (2 * P + v) h b-is (omega (arith, a_long)) (32 * P + u) (omega arith)
      ∙ stored_byte s a (P + v) t a-is (omega arith) (32 * P + u) (omega arith)

  module _ (t-fits : t < 2 ^ 64) (h_fits : h < 2 ^ 64) (e-fits : e < 2 ^ 64) where
    first : Updated (word_at s) (word_at a) (P + v) t
    first = stored s a (P + v) t a-is (omega arith) t-fits

    second : Updated (word_at a) (word_at b) (2 * P + v) h
    second = stored a b (2 * P + v) h b-is (omega (arith, a_long)) h_fits

    third : Updated (word_at b) (word_at d) (3 * P + v) e
    third = stored b d (3 * P + v) e d-is (omega (arith, b_long)) e-fits

    pub node_laid : Laid (word_at s) (word_at d) P v h t e
    node_laid = record {
      height_put = third.other (2 * P + v) (λ q. omega arith) ∙ second.here;
      then_put = third.other (P + v) (λ q. omega arith) ∙ second.other (P + v) (λ q. omega arith) ∙ first.here;
      else_put = third.here;
      others = λ k x y z. third.other k z ∙ second.other k y ∙ first.other k x;
    }
