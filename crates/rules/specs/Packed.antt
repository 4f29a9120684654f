-- An answer as one number of 64 bits, for C. Assumes nothing.
use Rattle.std.specs.Prelude.{ℕ, ◌+◌, ◌*◌, ◌^◌}
use Rattle.diagram.specs.Answer.{Answer, value, refusal}

-- the value as f gives it, or 2 ^ 63 + 2 ^ 32 × refusal + place
unfoldable pub packed : {A : Type 0} → (A → ℕ) → Answer A → ℕ
packed f (value a) = f a
packed f (refusal number place) = 2 ^ 63 + 2 ^ 32 * number + place
