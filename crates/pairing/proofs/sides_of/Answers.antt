-- `pairing::sides_of` meets its contract. Assumes nothing.
use Prim.Native.Nat.{◌+◌, ◌*◌, ◌<◌}
use mathlib.Core.Path.{◌≡◌}
use mathlib.Core.Bool.{true, false}
use native.Mathlib.Omega.{arith}
use Rattle.words.specs.Words.{word_at}
use Rattle.pairing.specs.Pairs.{follow}
use Rattle.pairing.proofs.Pairs.{first_asks, second_asks, side_is}
use Rattle.pairing.proofs.sides_of.Goals as goal
use Rattle.pairing.proofs.sides_of.Goals.{After-cofactors_of-b}

pub cofactors_of-a-requires : goal.cofactors_of-a-requires
cofactors_of-a-requires c = let p = c.requires in first_asks _ _ _ p.0 _ p.1 p.2

pub cofactors_of-b-requires : goal.cofactors_of-b-requires
cofactors_of-b-requires c = let p = c.requires in second_asks _ _ _ p.0 _ p.1 p.2

high : (c : After-cofactors_of-b)
    → (c.cofactors_of-a.result.high.value < 131072) × (c.cofactors_of-b.result.high.value < 131072)
    × (c.cofactors_of-a.result.high.value * 131072 + c.cofactors_of-b.result.high.value
    ≡ follow (word_at c.args.table1.now) (word_at c.args.table2.now) true c.args.pair)
high c = let p = c.requires in side_is _ _ _ p.0 _ p.1 p.2 true _ _ c.cofactors_of-a.ensures.0 c.cofactors_of-b.ensures.0

low : (c : After-cofactors_of-b)
    → (c.cofactors_of-a.result.low.value < 131072) × (c.cofactors_of-b.result.low.value < 131072)
    × (c.cofactors_of-a.result.low.value * 131072 + c.cofactors_of-b.result.low.value
    ≡ follow (word_at c.args.table1.now) (word_at c.args.table2.now) false c.args.pair)
low c = let p = c.requires in side_is _ _ _ p.0 _ p.1 p.2 false _ _ c.cofactors_of-a.ensures.1 c.cofactors_of-b.ensures.1

pub overflow_mul-result : goal.overflow_mul-result
overflow_mul-result c = let s = high (goal.at.overflow_mul-result c).After-cofactors_of-b in omega (arith, s.0)

pub overflow_add-result : goal.overflow_add-result
overflow_add-result c = let s = high (goal.at.overflow_add-result c).After-cofactors_of-b in omega (arith, s.0, s.1)

pub overflow_mul-result-2 : goal.overflow_mul-result-2
overflow_mul-result-2 c = let s = low (goal.at.overflow_mul-result-2 c).After-cofactors_of-b in omega (arith, s.0)

pub overflow_add-result-2 : goal.overflow_add-result-2
overflow_add-result-2 c = let s = low (goal.at.overflow_add-result-2 c).After-cofactors_of-b in omega (arith, s.0, s.1)

pub returns : goal.returns
returns c = ((high (goal.at.returns c).After-cofactors_of-b).2, (low (goal.at.returns c).After-cofactors_of-b).2)
