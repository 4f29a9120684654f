-- Only an unnamed record is refused by 9. Assumes nothing.
use Prim.Native.Nat.{ℕ}
use mathlib.Core.Path.{◌≡◌, refl}
use native.Mathlib.Omega.{arith}
use Rattle.diagram.specs.declared.Node.{Node}
use Rattle.rules.specs.declared.Refusal.{Refusal}
use Rattle.rules.specs.declared.Refusal.TheVariants.{Length, Nodes, Root, Height, Order, Target, ThenFlag, EqualEdges, Unnamed, Sheet, Out, SetupRange, Unpermitted, RankRange, PartRange, TooManyNodes, ItemRange, Falls, ShortList, UnequalSettings, TooManyPairs, NonePermitted}
use Rattle.rules.specs.Refusals.{number_of}

pub not_nine : (r : Refusal) → ((k : Node) → r ≡ Unnamed k → ⊥) → number_of r ≡ 9 → ⊥
not_nine Length other e = omega arith
not_nine Nodes other e = omega arith
not_nine Root other e = omega arith
not_nine (Height k) other e = omega arith
not_nine (Order k) other e = omega arith
not_nine (Target k) other e = omega arith
not_nine (ThenFlag k) other e = omega arith
not_nine (EqualEdges k) other e = omega arith
not_nine (Unnamed k) other e = other k refl
not_nine Sheet other e = omega arith
not_nine Out other e = omega arith
not_nine SetupRange other e = omega arith
not_nine Unpermitted other e = omega arith
not_nine RankRange other e = omega arith
not_nine PartRange other e = omega arith
not_nine TooManyNodes other e = omega arith
not_nine (ItemRange i) other e = omega arith
not_nine (Falls i) other e = omega arith
not_nine ShortList other e = omega arith
not_nine UnequalSettings other e = omega arith
not_nine TooManyPairs other e = omega arith
not_nine NonePermitted other e = omega arith
