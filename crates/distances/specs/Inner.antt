-- Setups that are near another one: for inner contracts only. Assumes nothing.
use Rattle.std.specs.Prelude.{ℕ, ◌+◌, ◌-◌, ◌*◌, ◌/◌, ◌%◌, ◌^◌, ◌≤◌, ◌<◌, ◌≡◌, Bool, true, false}
use Rattle.diagram.specs.Count.{indicator}
use Rattle.distances.specs.Distance.{distance}

-- x with its setting of height h on or off
unfoldable pub set_at : Bool → ℕ → ℕ → ℕ
set_at on h x = (x / 2 ^ h * 2 + indicator on) * 2 ^ (h - 1) + x % 2 ^ (h - 1)

-- the settings of x, but for the last h, and there those of z
unfoldable pub joined : ℕ → ℕ → ℕ → ℕ
joined h x z = x / 2 ^ h * 2 ^ h + z % 2 ^ h

-- the test P looks only at the last h settings
abbrev pub LooksAt : (ℕ → Bool) → ℕ → Type 0
LooksAt P h = (y z : ℕ) → y % 2 ^ h ≡ z % 2 ^ h → P y ≡ P z

-- whatever passes the test P differs from x in d or more of the last h settings
abbrev pub Apart : (ℕ → Bool) → ℕ → ℕ → ℕ → Type 0
Apart P h x d = (z : ℕ) → P z ≡ true → d ≤ distance h x z

-- something that passes the test P differs from x in at most d of the last h settings
abbrev pub Reached : (ℕ → Bool) → ℕ → ℕ → ℕ → Type 0
Reached P h x d = (z : ℕ) × (P z ≡ true) × (distance h x z ≤ d)

-- of the numbers that have all but their last h settings as x, y is nearest to x among those that pass the test P: none differs from x in fewer settings, and none that differs in as many is smaller
pub record Nearest (P : ℕ → Bool) (h x y : ℕ) : Type 0 where
  pub begins : y / 2 ^ h ≡ x / 2 ^ h
  pub passes : P y ≡ true
  pub nearest : (z : ℕ) → z / 2 ^ h ≡ x / 2 ^ h → P z ≡ true → distance h x y ≤ distance h x z
  pub least : (z : ℕ) → z / 2 ^ h ≡ x / 2 ^ h → P z ≡ true → distance h x z ≡ distance h x y → y ≤ z

-- a setting on or off, at c settings in all that differ, is chosen before its opposite at d: off where they are equal
abbrev pub Chosen : Bool → ℕ → ℕ → Type 0
Chosen true c d = c < d
Chosen false c d = c ≤ d
