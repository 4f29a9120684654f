-- `cutting::Extended::word_in` meets its contract. Assumes nothing.
use mathlib.Core.Path.{refl}
use native.Mathlib.Omega.{arith}
use Rattle.cutting.proofs.Behind.{extended_low, extended_high}
use Rattle.cutting.proofs.Extended.word_in.Goals as goal

pub returns-then-v-self : goal.returns-then-v-self
returns-then-v-self c = extended_low _ _ _ _ _ c.if-v-self.true c.word_at.ensures

pub returns-else-v-self : goal.returns-else-v-self
returns-else-v-self c = extended_high _ _ _ _ _ (omega arith) refl
