-- What a pair means under an operation: what its sides mean, or at the sinks what the operation makes of their flags. Assumes nothing.
use Prim.Native.Nat.{ℕ, ◌/◌, ◌%◌, ◌<◌}
use mathlib.Core.Path.{◌≡◌, ap₂}
use mathlib.Core.Bool.{Bool, true}
use mathlib.Core.List.{List}
use native.Mathlib.Omega.{arith}
use Rattle.words.specs.Words.{word_at}
use Rattle.diagram.specs.Format.{Words, height}
use Rattle.diagram.specs.Meaning.{bit, flip, holds, plain, under}
use Rattle.diagram.specs.Reading.{cofactor}
use Rattle.diagram.proofs.Cofactor.{cofactor_own}
use Rattle.pairing.specs.Pairs.{first_edge, second_edge, pair_height, follow}
use Rattle.pairing.specs.Inner.{PairWithin, meaning}
use Rattle.pairing.proofs.Pairs.{first_of_pair, second_of_pair, first_low, second_low, second_small}

-- an edge to a node of height 0, which is the sink, permits every setup, or none if it is flagged
under_sink : (w : Words) (e : ℕ) → height w (e / 2) ≡ 0 → (x : ℕ) → under w e x ≡ flip (e % 2) true
unfolding under plain holds
under_sink w e low x = rw low

module _ (t u : List ℕ) (op : Bool → Bool → Bool) (pair : ℕ) (I : PairWithin t u pair) where
  abbrev w : Words
  w = word_at t

  abbrev v : Words
  v = word_at u

  -- a pair of some height means what its side does, by the setup's own setting
  pub meaning_step : 0 < pair_height w v pair → (x : ℕ) → meaning w v op pair x ≡ meaning w v op (follow w v (bit (pair_height w v pair) x) pair) x
  unfolding meaning follow
  meaning_step some x =
      let h = pair_height w v pair in
      let A = I.first in
      let B = I.second in
      let l = second_small t u pair I some (bit h x) in
      rw (first_of_pair (cofactor w h (bit h x) (first_edge pair)) (cofactor v h (bit h x) (second_edge pair)) l, second_of_pair (cofactor w h (bit h x) (first_edge pair)) (cofactor v h (bit h x) (second_edge pair)) l)
      (ap₂ op (cofactor_own w A.settings A.nodes A.holds.ordered (first_edge pair) h A.inside (first_low t u pair I) some x)
      (cofactor_own v B.settings B.nodes B.holds.ordered (second_edge pair) h B.inside (second_low t u pair I) some x))

  -- a pair of two sinks means what the operation makes of their flags
  pub meaning_sink : pair_height w v pair ≡ 0 → (x : ℕ) → meaning w v op pair x ≡ op (flip (first_edge pair % 2) true) (flip (second_edge pair % 2) true)
  unfolding meaning
  meaning_sink low x =
      ap₂ op (under_sink w (first_edge pair) (omega (arith, first_low t u pair I)) x)
      (under_sink v (second_edge pair) (omega (arith, second_low t u pair I)) x)
