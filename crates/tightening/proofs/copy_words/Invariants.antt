-- `tightening::copy_words` meets its contract. The loop's invariant: the first k words are copied (`Copied`). Assumes nothing.
use mathlib.Core.Path.{◌≡◌}
use lib.ListN.{length}
use Rattle.tightening.specs.Inner.{Copied}
use Rattle.tightening.proofs.copy_words.Given as goal

abbrev pub invariant-loop-k : goal.invariant-loop-k
invariant-loop-k l = (length l.out ≡ length l.initial.out) × Copied l.table l.out l.k
