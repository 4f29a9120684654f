-- What the inner functions know of the records, and of the marks of rule 9: for inner contracts only. Assumes nothing.
use Rattle.std.specs.Prelude.{ℕ, suc, ◌%◌, ◌<◌, ◌≡◌, cond, List, eqb, length, get_or}
use Rattle.diagram.specs.Format.{Words, middle_field, low_field}
use Rattle.diagram.specs.Count.{indicator}
use Rattle.diagram.specs.Answer.{Answer, refusal, pass, each}
use Rattle.diagram.specs.Rules.{named, check_records}

-- a record after `before` and below `limit`: its else-edge is below `low`, its then-edge plain, and they differ
pub record InLevel (word before limit low : ℕ) : Type 0 where
  pub ascends : before < word
  pub below : word < limit
  pub else_below : low_field word < low
  pub then_plain : middle_field word % 2 ≡ 0
  pub differ : middle_field word ≡ low_field word → ⊥

-- if the records up to k pass rules 4 to 8, so do those up to r
abbrev pub PassFrom : Words → ℕ → ℕ → Type 0
PassFrom w k r = (n : ℕ) → check_records w n k ≡ pass → check_records w n r ≡ pass

-- a mark for each node that some record of 1 to m names
unfoldable pub Marked : List ℕ → ℕ → Words → Type 0
Marked marks m w = (k : ℕ) → k < length marks → get_or marks k 0 ≡ indicator (named w m k)

-- rule 9 by the marks: the lowest node from 1 to m that has none
unfoldable pub check_marks : List ℕ → ℕ → Answer (Unit {0})
check_marks marks m = each (λ k. cond (eqb (get_or marks (suc k) 0) 0) (refusal 9 (suc k)) pass) m
