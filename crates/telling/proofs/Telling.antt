-- An answer in three words, in the terms of the code. Assumes nothing.
use Prim.Native.Nat.{ℕ}
use mathlib.Core.Path.{◌≡◌, refl, ap, ◌∙◌}
use mathlib.Core.List.{List}
use Rattle.std.specs.Prelude.{Result, Ok, Err}
use Rattle.diagram.specs.Answer.{Answer}
use Rattle.rules.specs.declared.Refusal.{Refusal}
use Rattle.rules.specs.Refusals.{answer_as}
use Rattle.telling.specs.Told.{returned, told}

-- v is the code's answer to what a defines, its value as g has it; r is returned, and the words are left
module _ {V A : Type 0} (g : V → A) (f : A → List ℕ) (a : Answer A) (v : Result V Refusal) (is : answer_as g v ≡ a) where
  returns : (v : Result V Refusal) → returned (answer_as (λ x. f (g x)) v) ≡ returned (answer_as g v)
  unfolding returned
  returns (Ok x) = refl
  returns (Err e) = refl

  tells : (v : Result V Refusal) → told (λ w. w) (answer_as (λ x. f (g x)) v) ≡ told f (answer_as g v)
  unfolding told
  tells (Ok x) = refl
  tells (Err e) = refl

  pub told_as : (r : ℕ) (words : List ℕ) → (r ≡ returned (answer_as (λ x. f (g x)) v)) × (words ≡ told (λ w. w) (answer_as (λ x. f (g x)) v)) → (r ≡ returned a) × (words ≡ told f a)
  told_as r words p = (p.0 ∙ returns v ∙ ap returned is, p.1 ∙ tells v ∙ ap (told f) is)
