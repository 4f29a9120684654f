-- The setup closest to another one, in the words of request 12. By search over distances and over setups. Assumes nothing.
use Rattle.std.specs.Prelude.{ℕ, ◌+◌, ◌^◌, ◌≤◌, ◌<◌, ◌≡◌, Bool, true, ◌&&◌, eqb}
use Rattle.std.proofs.Math.Option.{Option}
use Rattle.diagram.specs.Count.{smallest, some_below}
use Rattle.diagram.specs.Answer.{Answer, value, and_then, or_refuse}
use Rattle.distances.specs.Distance.{distance}

-- y is permitted, by the test P, and differs from x in exactly d of the n settings
unfoldable pub is_at : (ℕ → Bool) → ℕ → ℕ → ℕ → ℕ → Bool
is_at P n x d y = P y && eqb (distance n x y) d

-- the fewest settings, from 0 to n, in which a permitted setup differs from x, if there is one
unfoldable pub fewest : (ℕ → Bool) → ℕ → ℕ → Option ℕ
fewest P n x = smallest (λ d. some_below (is_at P n x d) (2 ^ n)) (n + 1)

-- the smallest permitted setup that differs from x in exactly d settings, if there is one
unfoldable pub closest_at : (ℕ → Bool) → ℕ → ℕ → ℕ → Option ℕ
closest_at P n x d = smallest (is_at P n x d) (2 ^ n)

-- the permitted setup that differs from x in the fewest settings, the smallest among equals, and that number; or rule 21, where no setup is permitted
unfoldable pub closest : (ℕ → Bool) → ℕ → ℕ → Answer (ℕ × ℕ)
closest P n x =
    and_then (or_refuse 21 (fewest P n x)) λ d.
    and_then (or_refuse 21 (closest_at P n x d)) λ y.
    value (y, d)

-- what setup y, given for x with the number d, is
pub record IsClosest (P : ℕ → Bool) (n x y d : ℕ) : Type 0 where
  pub below : y < 2 ^ n
  pub permits_it : P y ≡ true
  -- it differs in d settings
  pub differs : distance n x y ≡ d
  -- no permitted setup differs in fewer
  pub none_closer : (z : ℕ) → z < 2 ^ n → P z ≡ true → d ≤ distance n x z
  -- among equals the smallest is given
  pub least : (z : ℕ) → z < 2 ^ n → P z ≡ true → distance n x z ≡ d → y ≤ z
