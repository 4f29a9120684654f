-- Rule 12, and the answer by where a setup's way ends, in the terms of the code. Assumes nothing.
use Prim.Native.Nat.{ℕ, ◌+◌, ◌-◌, ◌*◌, ◌/◌, ◌%◌, ◌^◌, ◌≤◌, ◌<◌}
use mathlib.Core.Path.{◌≡◌, refl, sym, ap, ◌∙◌}
use mathlib.Core.Logic.{◌≢◌}
use mathlib.Core.Bool.{Bool}
use mathlib.Core.List.{List}
use mathlib.Core.Option.{some, none}
use native.Mathlib.Nat.{lt_of_lt_of_le}
use native.Mathlib.Omega.{arith}
use lib.Pow.{pow_mono, pow-lt}
use Rattle.words.specs.Words.{word_at}
use Rattle.diagram.specs.Format.{Words, height}
use Rattle.diagram.specs.Meaning.{under}
use Rattle.diagram.specs.Count.{smallest}
use Rattle.diagram.specs.Answer.{value, refusal, and_then}
use Rattle.checking.proofs.Answering.{too_large, in_range, tested}
use Rattle.exclusion.specs.Finding.{Finding, is_permitted, ruled_out, finding}
use Rattle.exclusion.specs.Operations.{find_setup}
use Rattle.walking.specs.Inner.{LiesIn}
use Rattle.exclusion.specs.Inner.{Follows, turned_at}
use Rattle.exclusion.proofs.Found.{found_permitted, found_nothing, given_fits, found_ruled}

pub out_of_range : (n x : ℕ) (P : ℕ → Bool) → n ≤ 63 → 1 * 2 ^ n % 18446744073709551616 ≤ x → refusal 12 0 ≡ find_setup x n P
unfolding find_setup and_then
out_of_range n x P few l = ap (λ a. and_then a (λ _. value (finding P n x))) (too_large n x P few l)

-- the way of a setup of n settings has ended at the sink
module _ (t : List ℕ) (n from x e h other : ℕ) (F : Follows t n from x e h other × (e / 2 ≡ 0)) (few : n ≤ 63) (l : x < 1 * 2 ^ n % 18446744073709551616) where
  abbrev w : Words
  w = word_at t

  abbrev P : ℕ → Bool
  P = under w from

  small : x < 2 ^ n
  small = in_range n x P few l

  answers : (f : Finding) → finding P n x ≡ f → value f ≡ find_setup x n P
  unfolding find_setup and_then
  answers f q = ap value (sym q) ∙ ap (λ a. and_then a (λ _. value (finding P n x))) (tested n x P few l (P x) refl)

  -- by `always`
  pub ends_permitted : e ≡ 0 → value is_permitted ≡ find_setup x n P
  ends_permitted q = answers is_permitted (found_permitted t n from x e h other F.0 small q)

  -- by `never`
  module _ (some-flag : e ≡ 0 → ⊥) where
    never : e ≡ 1
    never = omega (arith, F.1, some-flag)

    pub ends_empty : n < h → value (ruled_out 0 none) ≡ find_setup x n P
    ends_empty i = answers (ruled_out 0 none) (found_nothing t n from x e h other F.0 small never i)

    -- behind a node
    module _ (i : h ≤ n) where
      pub turns : (0 < h) × (h ≤ 63) × (x < 2 ^ 63)
      turns = (F.0.tall, omega arith, lt_of_lt_of_le small (pow_mono few))

      pub goes_on : LiesIn t other × (other ≢ 1)
      goes_on = let Q = F.0.passed i in ((n, Q.lies), λ q. Q.differ (q ∙ sym never))

      module _ (front rest : ℕ) (front_is : front ≡ turned_at h x) (rest-is : smallest (under w other) (2 ^ height w (other / 2)) ≡ some rest) where
        pub sum_fits : front + rest < 18446744073709551616
        sum_fits = rw front_is (omega (arith, given_fits t n from x e h other F.0 small never i rest rest-is, pow-lt {i = n} {j = 64} (omega arith)))

        pub ends_ruled : value (ruled_out (n + 1 - h) (some (front + rest))) ≡ find_setup x n P
        ends_ruled = answers (ruled_out (n + 1 - h) (some (front + rest))) (rw front_is (found_ruled t n from x e h other F.0 small never i rest rest-is))
