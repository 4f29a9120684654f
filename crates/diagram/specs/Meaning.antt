-- Which setups a table permits. A setup is an assignment of the n settings, read as a number. Assumes nothing.
use Rattle.std.specs.Prelude.{ℕ, zero, suc, ◌-◌, ◌/◌, ◌%◌, ◌^◌, Bool, true, not, cond, eqb}
use Rattle.diagram.specs.Format.{Words, root, height, then_edge, else_edge}

-- the bit of weight 2 ^ (h - 1): the setting that a node of height h tests
unfoldable pub bit : ℕ → ℕ → Bool
bit h x = eqb (x / 2 ^ (h - 1) % 2) 1

-- the edge by which setup x leaves node k
unfoldable pub branch : Words → ℕ → ℕ → ℕ
branch w k x = cond (bit (height w k) x) (then_edge w k) (else_edge w k)

-- the opposite, if the flag is set
unfoldable pub flip : ℕ → Bool → Bool
flip zero b = b
flip (suc f) b = not b

-- whether setup x is permitted under a plain edge to node k, where no path passes more than d nodes
unfoldable pub holds : Words → ℕ → ℕ → ℕ → Bool
holds w zero k x = true
holds w (suc d) zero x = true
holds w (suc d) (suc k) x = let e = branch w (suc k) x in flip (e % 2) (holds w d (e / 2) x)

-- whether setup x is permitted under a plain edge to node k: edges lead to smaller heights, so a path from k passes at most as many nodes as k's height
unfoldable pub plain : Words → ℕ → ℕ → Bool
plain w k x = holds w (height w k) k x

-- whether setup x is permitted under edge e
unfoldable pub under : Words → ℕ → ℕ → Bool
under w e x = flip (e % 2) (plain w (e / 2) x)

-- whether the table permits setup x: x satisfies the diagram's Boolean function
unfoldable pub permitted : Words → ℕ → Bool
permitted w x = under w (root w) x
