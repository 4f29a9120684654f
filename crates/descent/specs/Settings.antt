-- Unranking, setting by setting: what holds after each one, in the words of request 4. Assumes nothing.
use Rattle.std.specs.Prelude.{ℕ, ◌+◌, ◌*◌, ◌/◌, ◌^◌, ◌<◌, ◌≡◌, Bool, ◌&&◌, eqb}
use Rattle.diagram.specs.Count.{count_below}

-- how many setups of n settings that P permits begin with the settings x (as digits), h settings being left
unfoldable pub count_beginning : (ℕ → Bool) → ℕ → ℕ → ℕ → ℕ
count_beginning P n h x = count_below (λ y. P y && eqb (y / 2 ^ h) x) (2 ^ n)

-- the number left of the rank asked, after settings are chosen as the digits of x, h of n being left
pub record IsLeft (P : ℕ → Bool) (n asked h x left : ℕ) : Type 0 where
  -- it is the rank asked, less the count of permitted setups below all that begin as chosen (x * 2 ^ h is the least of these)
  pub less : left + count_below P (x * 2 ^ h) ≡ asked
  -- and is below the count of permitted setups that begin so
  pub below : left < count_beginning P n h x
