-- What the rules of one record know of those before it: for inner contracts only. Assumes nothing.
use Rattle.std.specs.Prelude.{ℕ, ◌-◌, cond, ltb}
use Rattle.diagram.specs.Format.{Words}

-- the record before record k, or 0
abbrev pub previous : Words → ℕ → ℕ
previous w k = cond (ltb 1 k) (w (k - 1)) 0
