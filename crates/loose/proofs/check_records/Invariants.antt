-- `loose::check_records` meets its contract. The loop's invariant: the first k records pass. Assumes nothing.
use Prim.Native.Nat.{suc}
use mathlib.Core.Path.{◌≡◌}
use Rattle.words.specs.Words.{word_at}
use Rattle.diagram.specs.Answer.{pass, each}
use Rattle.loose.specs.Rules.{check_loose_record}
use Rattle.loose.proofs.check_records.Given as goal

abbrev pub invariant-loop-k : goal.invariant-loop-k
invariant-loop-k l = each (λ i. check_loose_record (word_at l.table) l.n l.nodes (suc i)) l.k ≡ pass
