-- The edges of a node are put down as what they become: three stores. Assumes nothing.
use Prim.Native.Nat.{ℕ, ◌+◌, ◌*◌, ◌^◌, ◌≤◌, ◌<◌}
use mathlib.Core.Path.{◌≡◌, ap₂, sym, ◌∙◌}
use mathlib.Core.Bool.{Bool, true, false, not}
use mathlib.Core.List.{List}
use native.Mathlib.Omega.{arith}
use lib.Dec.{eqb}
use lib.ListN.{length}
use Rattle.words.specs.Words.{word_at, put_word}
use Rattle.words.proofs.Stores.{Updated}
use Rattle.words.proofs.Stores.{stored, stored_long}
use Rattle.reducing.specs.Levels.{through}
use Rattle.reducing.specs.Inner.{edge_of, result_of}
use Rattle.carrying.specs.Words.{sort_word}
use Rattle.reducing.specs.Steps.{Renewed}

module _ (few : Bool) (s a b d : List ℕ) (P i h end t e z : ℕ) (long : 32 * P ≤ length s) (inside : i < P) (low : end < P)
    (t-is : t ≡ through (result_of (word_at s) P) (word_at s (P + i))) (e-is : e ≡ through (result_of (word_at s) P) (word_at s (3 * P + i))) (z-is : z ≡ sort_word few h t e i)
    (a-is : a ≡ put_word s (P + i) t) (b-is : b ≡ put_word a (3 * P + i) e) (d-is : d ≡ put_word b end z) where
  a_long : length a ≡ length s
  a_long = stored_long s a (P + i) t a-is (omega arith)

  b_long : length b ≡ length s
  b_long = stored_long a b (3 * P + i) e b-is (omega (arith, a_long)) ∙ a_long

  pub renewed_long : length d ≡ length s
  renewed_long = stored_long b d end z d-is (omega (arith, b_long)) ∙ b_long

  module _ (t-fits : t < 2 ^ 64) (e-fits : e < 2 ^ 64) (z-fits : z < 2 ^ 64) where
    first : Updated (word_at s) (word_at a) (P + i) t
    first = stored s a (P + i) t a-is (omega arith) t-fits

    second : Updated (word_at a) (word_at b) (3 * P + i) e
    second = stored a b (3 * P + i) e b-is (omega (arith, a_long)) e-fits

    third : Updated (word_at b) (word_at d) end z
    third = stored b d end z d-is (omega (arith, b_long)) z-fits

    then_here : word_at d (P + i) ≡ t
    then_here = third.other (P + i) (λ q. omega arith) ∙ second.other (P + i) (λ q. omega arith) ∙ first.here

    else_here : word_at d (3 * P + i) ≡ e
    else_here = third.other (3 * P + i) (λ q. omega arith) ∙ second.here

    sides : (b : Bool) → edge_of (word_at d) P b i ≡ through (result_of (word_at s) P) (edge_of (word_at s) P b i)
    sides true = then_here ∙ t-is
    sides false = else_here ∙ e-is

    pub renewed : Renewed few (word_at s) (word_at d) P i h end
    renewed = record {
      sides = sides;
      made = third.here ∙ z-is ∙ sym (ap₂ (λ (t e : ℕ). sort_word few h t e i) then_here else_here);
      others = λ j l m n. third.other j n ∙ second.other j m ∙ first.other j l;
    }

    pub renewed_differ : not (eqb t e) ≡ not (eqb (word_at d (P + i)) (word_at d (3 * P + i)))
    renewed_differ = rw (then_here, else_here)
