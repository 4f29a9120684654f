-- Calls of part-write, and what a list of them wrote. Assumes nothing.
use Rattle.std.specs.Prelude.{ℕ, ◌≡◌}
use mathlib.Core.List.{List, Memᴰ}
use Rattle.diagram.specs.Answer.{Answer}
use Rattle.tables.specs.Writing.{HandsOut}
use Rattle.parts.specs.Operations.{Promise}

-- a call: the index, the sheet and the out memory at entry, and the answer, the sheet and the out memory at return
pub record Call : Type 0 where
  pub index : ℕ
  pub sheet : List ℕ
  pub out : List ℕ
  pub answer : Answer ℕ
  pub after_sheet : List ℕ
  pub after_out : List ℕ

-- a call on a table, with k parts, that keeps part-write's promise
abbrev pub Kept : List ℕ → ℕ → Call → Type 0
Kept table k c = Promise table k c.index c.sheet c.out c.answer c.after_sheet c.after_out

-- part j was written as these bytes: some call for j handed them out
pub record Wrote (calls : List Call) (j : ℕ) (bytes : List ℕ) : Type 0 where
  pub call : Call
  pub listed : Memᴰ call calls
  pub index_is : call.index ≡ j
  pub handed : HandsOut call.answer call.after_out bytes
