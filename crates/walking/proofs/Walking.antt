-- One step of a setup through the diagram, in the terms of the code. Assumes nothing.
use Prim.Native.Nat.{ℕ, ◌-◌, ◌/◌, ◌%◌, ◌^◌, ◌<◌}
use mathlib.Core.Path.{◌≡◌, sym, ap, ◌∙◌}
use mathlib.Core.Bool.{Bool, true, false, not, not-not}
use mathlib.Core.List.{List}
use native.Mathlib.Omega.{arith}
use lib.Dec.{eqb}
use borrow.Author.Tests.{eq-eqb, ne_eqb}
use Rattle.words.specs.Words.{word_at}
use Rattle.diagram.specs.Format.{Words, height}
use Rattle.diagram.specs.Meaning.{bit, branch, holds, plain, under}
use Rattle.diagram.specs.Reading.{IsRecord, Within}
use Rattle.diagram.proofs.Paths.{Lower, branch_lower, plain_branch}
use Rattle.diagram.proofs.Edges.{under_flagged, under_plain}
use Rattle.diagram.proofs.Inside.{lower_within}

-- the sink permits every setup
pub plain_sink : (w : Words) (k x : ℕ) → k ≡ 0 → plain w k x ≡ true
unfolding plain holds height
plain_sink w k x e = rw e

-- the edge that a record takes
module _ (w : Words) (k x h a b : ℕ) (r : IsRecord w k h a b) where
  pub branch_high : x / 2 ^ (h - 1) % 2 ≡ 1 → a ≡ branch w k x
  unfolding branch bit
  branch_high q = rw (← r.height_is, eq-eqb (x / 2 ^ (h - 1) % 2) 1 q) r.then_is

  pub branch_low : (x / 2 ^ (h - 1) % 2 ≡ 1 → ⊥) → b ≡ branch w k x
  unfolding branch bit
  branch_low q = rw (← r.height_is, ne_eqb (x / 2 ^ (h - 1) % 2) 1 q) r.else_is

-- node k is left by edge e, to node v: the height falls, and the answer is that of e
module _ (t : List ℕ) (k x e v : ℕ) (W : Within t k) (some : k ≡ 0 → ⊥) (e-is : e ≡ branch (word_at t) k x) (v-is : v ≡ e / 2) where
  pub calls : (m : ℕ) → height (word_at t) k ≡ m → (height (word_at t) v < m) × Within t v
  calls m q =
      let l : Lower (word_at t) k (branch (word_at t) k x) = branch_lower (word_at t) W.settings W.nodes W.holds.ordered k x (omega arith) W.inside in
      rw (v-is, e-is) (omega (arith, l.low), lower_within t k W (branch (word_at t) k x) l)

  pub leaves : plain (word_at t) k x ≡ under (word_at t) e x
  leaves = rw e-is (plain_branch (word_at t) W.settings W.nodes W.holds.ordered k x (omega arith) W.inside)

  module _ (f : Bool) (f-is : f ≡ eqb (e % 2) 1) where
    pub plain_flagged : f ≡ true → plain (word_at t) k x ≡ not (plain (word_at t) v x)
    plain_flagged q = leaves ∙ sym (under_flagged e f f-is (word_at t) x v v-is q)

    pub plain_plain : f ≡ false → plain (word_at t) k x ≡ plain (word_at t) v x
    plain_plain q = leaves ∙ sym (under_plain e f f-is (word_at t) x v v-is q)

    pub flagged_flagged : f ≡ true → not (plain (word_at t) k x) ≡ plain (word_at t) v x
    flagged_flagged q = ap not (plain_flagged q) ∙ not-not (plain (word_at t) v x)

    pub flagged_plain : f ≡ false → not (plain (word_at t) k x) ≡ not (plain (word_at t) v x)
    flagged_plain q = ap not (plain_plain q)
