-- What an operation answers. Assumes nothing.
use Rattle.std.specs.Prelude.{ℕ, zero, suc}
use Rattle.std.proofs.Math.Option.{Option, none, some}

-- a value, or a refusal by its number and its place
pub data Answer (A : Type 0) : Type 0 where
  value : A → Answer A
  refusal : ℕ → ℕ → Answer A

-- goes on with the value, or hands the refusal on
unfoldable pub and_then : {A B : Type 0} → Answer A → (A → Answer B) → Answer B
and_then (value a) f = f a
and_then (refusal number place) f = refusal number place

-- what was found, or the refusal of this number, with place 0
unfoldable pub or_refuse : {A : Type 0} → ℕ → Option A → Answer A
or_refuse number none = refusal number 0
or_refuse number (some a) = value a

-- nothing is refused
abbrev pub pass : Answer (Unit {0})
pass = value tt

-- the checks f 0, f 1, .., f (m - 1), until one refuses
unfoldable pub each : (ℕ → Answer (Unit {0})) → ℕ → Answer (Unit {0})
each f zero = pass
each f (suc m) = and_then (each f m) (λ _. f m)
