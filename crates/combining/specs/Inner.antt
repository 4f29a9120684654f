-- A checked table: for inner contracts only. Assumes nothing.
use Rattle.std.specs.Prelude.{ℕ, List}
use Rattle.diagram.specs.Ordered.{Accepted}

-- an accepted table
abbrev pub Checks : List ℕ → Type 0
Checks table = (n : ℕ) × (N : ℕ) × Accepted table n N
