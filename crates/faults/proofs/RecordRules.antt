-- Rules 4 to 8 of a record, by the tests that the code makes. Assumes nothing.
use Prim.Native.Nat.{ℕ, zero, suc, ◌-◌, ◌/◌, ◌%◌, ◌<◌}
use mathlib.Core.Path.{◌≡◌, sym, ◌∙◌}
use mathlib.Core.Bool.{Bool, true, false, cond, ◌&&◌, ◌||◌}
use native.Mathlib.Omega.{arith}
use lib.Dec.{eqb, ltb, leb}
use borrow.Author.Tests.{lt-ltb, lt-leb}
use Rattle.words.proofs.Cases.{join_false}
use Rattle.diagram.specs.Format.{Words, high_field, height}
use Rattle.diagram.specs.Answer.{refusal, pass}
use Rattle.diagram.specs.Rules.{misled, check_record}
use Rattle.diagram.specs.Reading.{HasFields, IsRecord}
use Rattle.diagram.proofs.Accept.{fits}
use Rattle.diagram.proofs.Fields.{fields_record}
use Rattle.faults.specs.Inner.{previous}

-- an edge to the sink leads below any record of some height
pub sink_below : (w : Words) (k e : ℕ) → 0 < height w k → e / 2 ≡ 0 → misled w k e ≡ false
unfolding misled height
sink_below w zero e p s = absurd (omega arith)
sink_below w (suc k) e p s = rw s (join_false (lt-leb (suc k) 0 (omega arith)) (lt-leb (high_field (w (suc k))) 0 p))

-- a record of some height is above 0, so the first one is above what comes before it
above_nothing : (word before before' k : ℕ) → 0 < k → 0 < word → before ≡ cond (ltb 1 k) before' 0 → leb word before ≡ (ltb 1 k && leb word before')
above_nothing word before before' zero p q e = absurd (omega arith)
above_nothing word before before' (suc zero) p q e = rw e (lt-leb word 0 q)
above_nothing word before before' (suc (suc k)) p q e = let t = lt-ltb 1 (suc (suc k)) (omega arith) in rw (e, t)

module _ (w : Words) (n k h a b word before : ℕ) (p : 0 < k) (word_is : word ≡ w k) (before-is : before ≡ previous w k) (F : HasFields word h a b) where
  pub fields_of : IsRecord w k h a b
  fields_of = fields_record w k word h a b p word_is F

  -- u tests the height, c the edges, if there is some height, and f the order
  pub by_tests : (u c f : Bool) → u ≡ (eqb h 0 || ltb n h) → (0 < h → c ≡ (misled w k a || misled w k b)) → f ≡ leb word before
      → check_record w n k ≡ cond u (refusal 4 k) (cond c (refusal 6 k) (cond f (refusal 5 k) (cond (eqb (a % 2) 1) (refusal 7 k) (cond (eqb a b) (refusal 8 k) pass))))
  unfolding check_record high_field
  by_tests true c f u-is c-is f-is = rw (← fields_of.height_is, ← u-is)
  by_tests false c f u-is c-is f-is =
      let tall = (fits n h (sym u-is)).0 in
      let q : f ≡ (ltb 1 k && leb (w k) (w (k - 1))) = f-is ∙ above_nothing word before (w (k - 1)) k p (omega (arith, F.high_is)) before-is ∙ rw word_is in
      rw (← fields_of.height_is, ← fields_of.then_is, ← fields_of.else_is, ← u-is, ← c-is tall, ← q)
