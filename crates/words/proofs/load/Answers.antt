-- `words::load` meets its contract: the eight bytes in the opposite order are the word. Assumes nothing.
use native.Mathlib.Omega.{arith}
use Rattle.std.proofs.lemmas.Option.{MatchOption-at_some}
use Rattle.words.proofs.Swaps.{swap_load}
use Rattle.words.proofs.load.Goals as goal

pub returns : goal.returns
returns c =
    let w = MatchOption-at_some _ _ _ c.unwrap.ensures c.as_array.ensures.cases in
    swap_load _ _ _ _ _ (λ i. omega (arith, c.type_inv.bytes i)) c.requires (omega arith) w.same c.from_le_bytes.ensures
