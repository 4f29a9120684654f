-- The table, the number and the place, or the value, of each case of the answer. Assumes nothing.
use Rattle.std.specs.Prelude.{ℕ, Result, Ok, Err}
use Rattle.diagram.specs.Answer.{value, refusal}
use Rattle.rules.specs.Refusals.{number_of, place_of}
use Rattle.combining.specs.declared.Fault.{Fault}
use Rattle.combining.specs.declared.Fault.TheVariants.{First, Second, Both}
use Rattle.combining.specs.Operations.{Reply}

-- the number of bytes written
abbrev pub combined_as : Result ℕ Fault → Reply ℕ
combined_as (Ok m) = (0, value m)
combined_as (Err (First r)) = (1, refusal (number_of r) (place_of r))
combined_as (Err (Second r)) = (2, refusal (number_of r) (place_of r))
combined_as (Err (Both r)) = (0, refusal (number_of r) (place_of r))
