-- The number and the place of each refusal. Assumes nothing.
use Rattle.std.specs.Prelude.{ℕ, Result, Ok, Err}
use Rattle.diagram.specs.Answer.{Answer, value, refusal}
use Rattle.rules.specs.declared.Refusal.{Refusal}
use Rattle.rules.specs.declared.Refusal.TheVariants.{Length, Nodes, Root, Height, Order, Target, ThenFlag, EqualEdges, Unnamed, Sheet, Out, SetupRange, Unpermitted, RankRange, PartRange, TooManyNodes, ItemRange, Falls, ShortList, UnequalSettings, TooManyPairs, NonePermitted}

-- the number of a refusal
abbrev pub number_of : Refusal → ℕ
number_of Length = 1
number_of Nodes = 2
number_of Root = 3
number_of (Height k) = 4
number_of (Order k) = 5
number_of (Target k) = 6
number_of (ThenFlag k) = 7
number_of (EqualEdges k) = 8
number_of (Unnamed k) = 9
number_of Sheet = 10
number_of Out = 11
number_of SetupRange = 12
number_of Unpermitted = 13
number_of RankRange = 14
number_of PartRange = 15
number_of TooManyNodes = 16
number_of (ItemRange i) = 14
number_of (Falls i) = 17
number_of ShortList = 18
number_of UnequalSettings = 19
number_of TooManyPairs = 20
number_of NonePermitted = 21

-- its place: the record for 4 to 9, the item for 17 and for a list's 14, otherwise 0
abbrev pub place_of : Refusal → ℕ
place_of Length = 0
place_of Nodes = 0
place_of Root = 0
place_of (Height k) = k.0
place_of (Order k) = k.0
place_of (Target k) = k.0
place_of (ThenFlag k) = k.0
place_of (EqualEdges k) = k.0
place_of (Unnamed k) = k.0
place_of Sheet = 0
place_of Out = 0
place_of SetupRange = 0
place_of Unpermitted = 0
place_of RankRange = 0
place_of PartRange = 0
place_of TooManyNodes = 0
place_of (ItemRange i) = i.0
place_of (Falls i) = i.0
place_of ShortList = 0
place_of UnequalSettings = 0
place_of TooManyPairs = 0
place_of NonePermitted = 0

-- an operation's answer: the value as f gives it, or the refusal by its number and its place
abbrev pub answer_as : {V A : Type 0} → (V → A) → Result V Refusal → Answer A
answer_as f (Ok v) = value (f v)
answer_as f (Err r) = refusal (number_of r) (place_of r)

-- some rules pass, or the first that does not
abbrev pub verdict_as : Result (Unit {0}) Refusal → Answer (Unit {0})
verdict_as v = answer_as (λ u. u) v
