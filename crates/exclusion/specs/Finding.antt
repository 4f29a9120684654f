-- What is found of a setup: by how many of its first settings it is ruled out, and the setup given for it, in the words of request 6. By search over settings and over setups. Assumes nothing.
use Rattle.std.specs.Prelude.{ℕ, zero, suc, ◌+◌, ◌-◌, ◌/◌, ◌^◌, ◌≤◌, ◌<◌, ◌≡◌, ◌≢◌, Bool, true, not, ◌&&◌, eqb}
use Rattle.std.proofs.Math.Option.{Option, none, some}
use Rattle.diagram.specs.Meaning.{bit}
use Rattle.diagram.specs.Count.{smallest, some_below}

-- setups x and y of n settings agree in the first p
unfoldable pub agree : ℕ → ℕ → ℕ → ℕ → Bool
agree n p x y = eqb (y / 2 ^ (n - p)) (x / 2 ^ (n - p))

-- y is permitted, by the test P, and begins with the same first p settings as x
unfoldable pub begins_as : (ℕ → Bool) → ℕ → ℕ → ℕ → ℕ → Bool
begins_as P n x p y = P y && agree n p x y

-- no permitted setup begins with the same first p settings as x
unfoldable pub none_begins : (ℕ → Bool) → ℕ → ℕ → ℕ → Bool
none_begins P n x p = not (some_below (begins_as P n x p) (2 ^ n))

-- the smallest p, from 0 to n, such that none does, if there is one
unfoldable pub first_ruling : (ℕ → Bool) → ℕ → ℕ → Option ℕ
first_ruling P n x = smallest (none_begins P n x) (n + 1)

-- the setup given: if p is above 0, the smallest permitted one that agrees with x in the first p - 1
unfoldable pub given : (ℕ → Bool) → ℕ → ℕ → ℕ → Option ℕ
given P n x zero = none
given P n x (suc p) = smallest (begins_as P n x p) (2 ^ n)

-- a setup is permitted, or its first p settings rule it out, and a setup is given or none
pub data Finding : Type 0 where
  is_permitted : Finding
  ruled_out : ℕ → Option ℕ → Finding

-- p and the setup given; where there is no p, the setup is permitted
unfoldable pub finding_by : (ℕ → Option ℕ) → Option ℕ → Finding
finding_by f none = is_permitted
finding_by f (some p) = ruled_out p (f p)

-- what is found of setup x of n settings
unfoldable pub finding : (ℕ → Bool) → ℕ → ℕ → Finding
finding P n x = finding_by (given P n x) (first_ruling P n x)

-- setup y, given for setup x, which its first p settings rule out: it is permitted, agrees in the settings before setting p, and differs at setting p
pub record IsGiven (P : ℕ → Bool) (n x p y : ℕ) : Type 0 where
  pub from_one : 1 ≤ p
  pub to_n : p ≤ n
  pub below : y < 2 ^ n
  pub permits_it : P y ≡ true
  pub agrees : agree n (p - 1) x y ≡ true
  pub differs : bit (n + 1 - p) y ≢ bit (n + 1 - p) x
