-- What the functions that count models know: for inner contracts only. Assumes nothing.
use Rattle.std.specs.Prelude.{ℕ, ◌+◌, ◌*◌, ◌^◌, ◌≤◌, ◌<◌, ◌≡◌, Bool, List, length}
use Rattle.words.specs.Words.{word_at}
use Rattle.diagram.specs.Meaning.{under}
use Rattle.diagram.specs.Count.{count_below}
use Rattle.counting.specs.Inner.{Opens}
use Rattle.models.specs.Pairs.{sum_counts}

-- which setups each of the root edges permits, words of `roots`, in the diagram that `table` holds
abbrev pub models_of : List ℕ → List ℕ → ℕ → ℕ → Bool
models_of table roots i = under (word_at table) (word_at roots i)

-- the first m root edges can be counted, from n settings down
pub record Rooted (table sheet roots : List ℕ) (n m : ℕ) : Type 0 where
  pub long : 8 * m ≤ length roots
  pub opens : (i : ℕ) → i < m → Opens table sheet (word_at roots i) n

-- ... in some table
abbrev pub RootedIn : List ℕ → List ℕ → ℕ → ℕ → Type 0
RootedIn sheet roots n m = (table : List ℕ) × Rooted table sheet roots n m

-- the counts of the first m models add up to `total`, in whichever table they can be counted
abbrev pub AddsUp : List ℕ → List ℕ → ℕ → ℕ → ℕ → Type 0
AddsUp sheet roots n m total = (table : List ℕ) → Rooted table sheet roots n m → total ≡ sum_counts n (models_of table roots) m

-- number r lies in model i, at rank `left`: r less the counts of the models before it
pub record LiesAt (table roots : List ℕ) (n m r i left : ℕ) : Type 0 where
  pub inside : i < m
  pub less : left + sum_counts n (models_of table roots) i ≡ r
  pub below : left < count_below (models_of table roots i) (2 ^ n)
