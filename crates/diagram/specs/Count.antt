-- Counting, one by one. Assumes nothing.
use Rattle.std.specs.Prelude.{ℕ, zero, suc, ◌+◌, ◌^◌, Bool, true, false, ◌&&◌, ◌||◌, cond, eqb}
use Rattle.std.proofs.Math.Option.{Option, none, some}
use Rattle.diagram.specs.Format.{Words, settings, height}
use Rattle.diagram.specs.Meaning.{plain, permitted}

-- 1 for true, 0 for false
unfoldable pub indicator : Bool → ℕ
indicator true = 1
indicator false = 0

-- how many x < m pass the test P
unfoldable pub count_below : (ℕ → Bool) → ℕ → ℕ
count_below P zero = 0
count_below P (suc m) = count_below P m + indicator (P m)

-- the x < m that passes the test P with exactly r smaller ones that do, if there is one
unfoldable pub select : (ℕ → Bool) → ℕ → ℕ → Option ℕ
select P zero r = none
select P (suc m) r = cond (P m && eqb (count_below P m) r) (some m) (select P m r)

-- the smallest x < m that passes the test P, if there is one: no smaller one does
unfoldable pub smallest : (ℕ → Bool) → ℕ → Option ℕ
smallest P m = select P m 0

-- whether some x < m passes the test P
unfoldable pub some_below : (ℕ → Bool) → ℕ → Bool
some_below P zero = false
some_below P (suc m) = some_below P m || P m

-- what place k (a word) of the work sheet (the caller's scratch memory) holds after counting: how many of the 2 ^ h setups of the settings from node k's own down, h of them, are permitted under a plain edge to k
unfoldable pub place : Words → ℕ → ℕ
place w k = count_below (plain w k) (2 ^ height w k)

-- C: how many setups the table permits (the model count, or satcount)
unfoldable pub total : Words → ℕ
total w = count_below (permitted w) (2 ^ settings w)
