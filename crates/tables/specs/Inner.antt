-- Writing the table of a set of setups: for inner contracts only. Assumes nothing.
use Rattle.std.specs.Prelude.{ℕ, ◌≡◌, Bool, List, length}
use Rattle.diagram.specs.Answer.{Answer}
use Rattle.tables.specs.Table.{table_of}
use Rattle.tables.specs.Writing.{fitted, length_of, out_after}

-- the table of the setups of n settings that pass P, written into the out memory or refused
pub record Writes (n : ℕ) (P : ℕ → Bool) (out : List ℕ) (answer : Answer ℕ) (out' : List ℕ) : Type 0 where
  pub answers : answer ≡ length_of (fitted (length out) (table_of n P))
  pub leaves : out' ≡ out_after (fitted (length out) (table_of n P)) out
