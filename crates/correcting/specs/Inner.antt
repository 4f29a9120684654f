-- What is asked for where a setup is not permitted, but some are: for inner contracts only. Assumes nothing.
use Rattle.std.specs.Prelude.{ℕ, ◌*◌, ◌^◌, ◌≤◌, ◌<◌, ◌≡◌, ◌≢◌, false, List, length}
use Rattle.words.specs.Words.{word_at}
use Rattle.diagram.specs.Meaning.{under}
use Rattle.counting.specs.Inner.{Countable}
use Rattle.correcting.specs.Operations.{needed}

-- a table holds a reduced diagram of n settings and N nodes, edge e leads to one of them, and the sheet has two places for each; e does not permit setup x, but some other
pub record Seekable (table sheet : List ℕ) (n N e x : ℕ) : Type 0 where
  pub countable : Countable table sheet n N e
  pub room : 8 * needed N ≤ length sheet
  pub small : x < 2 ^ n
  pub out : under (word_at table) e x ≡ false
  pub not_never : e ≢ 1
