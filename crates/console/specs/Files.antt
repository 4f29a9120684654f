-- The files that calls hand out, whatever sheets and out memory they were lent. Assumes nothing.
use Rattle.std.specs.Prelude.{ℕ, List}
use Rattle.diagram.specs.Answer.{Answer}
use Rattle.tables.specs.Writing.{HandsOut}
use Rattle.parts.specs.Operations.{Promise as PartPromise}
use Rattle.naming.specs.declared.Operation.{Operation}
use Rattle.combining.specs.Operations.{Reply, Promise as CombinePromise}
use Rattle.tightening.specs.Operations.{Promise as ProperPromise}

-- a call that keeps a promise about its sheet, its out memory, its answer, and both memories at return, handed these bytes out
pub record Handed (Promise : List ℕ → List ℕ → Answer ℕ → List ℕ → List ℕ → Type 0) (bytes : List ℕ) : Type 0 where
  pub sheet : List ℕ
  pub out : List ℕ
  pub answer : Answer ℕ
  pub after_sheet : List ℕ
  pub after_out : List ℕ
  pub keeps : Promise sheet out answer after_sheet after_out
  pub handed : HandsOut answer after_out bytes

-- ... as part j of k
abbrev pub PartFile : List ℕ → ℕ → ℕ → List ℕ → Type 0
PartFile table k j bytes = Handed (PartPromise table k j) bytes

-- ... as a loose table made proper
abbrev pub ProperFile : List ℕ → List ℕ → Type 0
ProperFile table bytes = Handed (ProperPromise table) bytes

-- ... as two tables made into one, with three sheets
pub record CombinedFile (op : Operation) (table1 table2 bytes : List ℕ) : Type 0 where
  pub sheet1 : List ℕ
  pub sheet2 : List ℕ
  pub pairs : List ℕ
  pub out : List ℕ
  pub reply : Reply ℕ
  pub after_sheet1 : List ℕ
  pub after_sheet2 : List ℕ
  pub after_pairs : List ℕ
  pub after_out : List ℕ
  pub keeps : CombinePromise op table1 sheet1 table2 sheet2 pairs out reply after_sheet1 after_sheet2 after_pairs after_out
  pub handed : HandsOut reply.1 after_out bytes
