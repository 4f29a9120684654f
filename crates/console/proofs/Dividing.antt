-- Demand 3 of a table that was made of two, or of a loose one. Assumes nothing.
use Prim.Native.Nat.{ℕ, ◌≤◌, ◌<◌}
use mathlib.Core.Path.{◌≡◌}
use mathlib.Core.List.{List, Memᴰ}
use Rattle.words.specs.Words.{word_at}
use Rattle.diagram.specs.Format.{settings}
use Rattle.diagram.specs.Answer.{value}
use Rattle.parts.specs.Calls.{Call, Kept}
use Rattle.parts.specs.Division.{Division}
use Rattle.parts.proofs.Dividing.{written_division}
use Rattle.naming.specs.declared.Operation.{Operation}
use Rattle.combining.specs.Operations.{combining}
use Rattle.combining.proofs.Theorems.{result}
use Rattle.tightening.specs.Operations.{making_proper}
use Rattle.tightening.proofs.Theorems.{written_table}

-- whatever list of part-write calls is made on the result, it divides the result as it would any table
pub combined_division : (op : Operation) (table1 sheet1 table2 sheet2 pairs : List ℕ) (room : ℕ) (bytes : List ℕ) → (combining op table1 sheet1 table2 sheet2 pairs room).1 ≡ value bytes
    → (k : ℕ) → 0 < k → k ≤ 65535 → (calls : List Call) → ((c : Call) → Memᴰ c calls → Kept bytes k c) → (N : ℕ) × Division bytes (settings (word_at table1)) N k calls
combined_division op table1 sheet1 table2 sheet2 pairs room bytes e = written_division _ _ bytes (result op table1 sheet1 table2 sheet2 pairs room bytes e).table

-- the same of a loose table made proper
pub proper_division : (table sheet : List ℕ) (room : ℕ) (bytes : List ℕ) → making_proper table sheet room ≡ value bytes
    → (k : ℕ) → 0 < k → k ≤ 65535 → (calls : List Call) → ((c : Call) → Memᴰ c calls → Kept bytes k c) → (N : ℕ) × Division bytes (settings (word_at table)) N k calls
proper_division table sheet room bytes e = written_division _ _ bytes (written_table table sheet room bytes e)
