-- The pairs of edges that two tables of equal n lead to, from their two root edges. Assumes nothing.
use Rattle.std.specs.Prelude.{ℕ, zero, suc, ◌+◌, ◌*◌, ◌/◌, ◌%◌, ◌^◌, Bool, true, false, cond, ◌&&◌, ◌||◌, eqb, ltb}
use Rattle.diagram.specs.Format.{Words, height}
use Rattle.diagram.specs.Count.{count_below}
use Rattle.diagram.specs.Reading.{cofactor}

-- a pair as one number: edges are below 2 ^ 17
unfoldable pub pair_of : ℕ → ℕ → ℕ
pair_of a b = a * 2 ^ 17 + b

unfoldable pub first_edge : ℕ → ℕ
first_edge pair = pair / 2 ^ 17

unfoldable pub second_edge : ℕ → ℕ
second_edge pair = pair % 2 ^ 17

-- the height of a pair: the greater of its edges' heights
abbrev pub greater : ℕ → ℕ → ℕ
greater a b = cond (ltb a b) b a

unfoldable pub pair_height : Words → Words → ℕ → ℕ
pair_height w v pair = greater (height w (first_edge pair / 2)) (height v (second_edge pair / 2))

-- both then-edges, or both else-edges, of a pair, followed at its height: a flag is carried down, and a lower edge stays
unfoldable pub follow : Words → Words → Bool → ℕ → ℕ
follow w v on pair = let h = pair_height w v pair in pair_of (cofactor w h on (first_edge pair)) (cofactor v h on (second_edge pair))

-- whether a pair leads to another in at most d steps; only a pair whose height is above 0 is followed
unfoldable pub leads : Words → Words → ℕ → ℕ → ℕ → Bool
leads w v zero from to = eqb from to
leads w v (suc d) from to = eqb from to || ltb 0 (pair_height w v from) && (leads w v d (follow w v true from) to || leads w v d (follow w v false from) to)

-- whether the root edges a and b lead to a pair: a step lowers the height, so n steps are enough
unfoldable pub reached : Words → Words → ℕ → ℕ → ℕ → ℕ → Bool
reached w v n a b pair = leads w v n (pair_of a b) pair

-- how many distinct pairs there are
unfoldable pub pair_count : Words → Words → ℕ → ℕ → ℕ → ℕ
pair_count w v n a b = count_below (reached w v n a b) (2 ^ 34)
