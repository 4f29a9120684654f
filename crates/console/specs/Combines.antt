-- What C is promised of two tables. Assumes nothing.
use Rattle.std.specs.Prelude.{ℕ, ◌≡◌, List}
use Rattle.naming.specs.declared.Operation.{Operation}
use Rattle.combining.specs.Operations.{Reply, Promise}
use Rattle.telling.specs.Told.{returned, told_of}

-- a function for C that makes two tables into one: it keeps the promise, and returns and tells what is answered
pub record Combines (op : Operation) (table1 sheet1 table2 sheet2 pairs out : List ℕ) (r : ℕ) (answer sheet1' sheet2' pairs' out' : List ℕ) : Type 0 where
  pub reply : Reply ℕ
  pub keeps : Promise op table1 sheet1 table2 sheet2 pairs out reply sheet1' sheet2' pairs' out'
  pub returns : r ≡ returned reply.1
  pub tells : answer ≡ told_of reply.0 reply.1
