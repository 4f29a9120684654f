-- What a step of ranking knows: for inner contracts only. Assumes nothing.
use Rattle.std.specs.Prelude.{ℕ, ◌+◌, ◌/◌, ◌<◌, ◌≡◌}
use Rattle.diagram.specs.Format.{Words, height}
use Rattle.diagram.specs.Meaning.{plain, under}
use Rattle.diagram.specs.Count.{count_below}

-- of the setups below y under a plain edge to node k: `passed` of them in the half that is passed over, and the others under edge e, below `rest`
pub record IsStep (w : Words) (k y e passed rest : ℕ) : Type 0 where
  pub node : e / 2 < k
  pub low : height w (e / 2) < height w k
  pub sum : count_below (plain w k) y ≡ passed + count_below (under w e) rest
