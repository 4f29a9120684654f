-- The packed form of an answer, in the terms of the code. Assumes nothing.
use Prim.Native.Nat.{ℕ, ◌+◌, ◌*◌, ◌^◌}
use mathlib.Core.Path.{◌≡◌, sym, ap, ◌∙◌}
use Rattle.diagram.specs.Answer.{Answer, value, refusal}
use Rattle.rules.specs.Packed.{packed}

-- b is the code's answer to what a defines
module _ {A : Type 0} (f : A → ℕ) (a b : Answer A) (is : b ≡ a) where
  pub packed_value : (v : A) → b ≡ value v → f v ≡ packed f a
  unfolding packed
  packed_value v q = sym (ap (packed f) (sym is ∙ q))

  pub packed_refusal : (number place r : ℕ) → b ≡ refusal number place → r ≡ 2 ^ 63 + 2 ^ 32 * number + place → r ≡ packed f a
  unfolding packed
  packed_refusal number place r q p = p ∙ sym (ap (packed f) (sym is ∙ q))
