-- Records of one height: an edge of theirs leads lower if its node is below the first of them. In the terms of the code. Assumes nothing.
use Prim.Native.Nat.{ℕ, zero, suc, ◌+◌, ◌-◌, ◌*◌, ◌/◌, ◌%◌, ◌≤◌, ◌<◌}
use mathlib.Core.Path.{◌≡◌, sym, ap, ◌∙◌}
use mathlib.Core.Bool.{Bool, true, false, not}
use native.Mathlib.Omega.{arith}
use native.Mathlib.Numerals.{add-one}
use lib.Dec.{eqb, ltb, leb}
use borrow.Author.Tests.{eqb-false, not-true, lt-leb, ne_eqb}
use Rattle.words.proofs.Cases.{join_false, and_false}
use Rattle.diagram.specs.Format.{Words, high_field, middle_field, low_field, height, then_edge, else_edge}
use Rattle.diagram.specs.Count.{indicator}
use Rattle.diagram.specs.Answer.{pass}
use Rattle.diagram.specs.Rules.{misled, check_record, check_records}
use Rattle.diagram.specs.Ordered.{Reduced}
use Rattle.diagram.specs.Reading.{HasFields, record_of}
use Rattle.diagram.proofs.AnswerLaws.{each_next}
use Rattle.diagram.proofs.Accept.{fitting, records_reduced}
use Rattle.diagram.proofs.Fields.{height_node}
use Rattle.diagram.proofs.Paths.{tall_node, height_le_settings}
use Rattle.diagram.proofs.Ascending.{rising}
use Rattle.records.specs.Inner.{InLevel, PassFrom}

-- the code's tests of a word, the last two by their answers
pub in_level_lem : (word before limit low h a b : ℕ) → HasFields word h a b → before < word → word < limit → b < low → (g : Bool) → g ≡ eqb (a % 2) 1 → g ≡ false → not (eqb a b) ≡ true
    → InLevel word before limit low
in_level_lem word before limit low h a b F p q r g g-is g-no s =
    let o : a % 2 ≡ 1 → ⊥ = eqb-false (a % 2) 1 (sym g-is ∙ g-no) in
    record {
      ascends = p;
      below = q;
      else_below = rw (← F.low_is) r;
      then_plain = rw (← F.middle_is) (omega arith);
      differ = rw (← F.middle_is, ← F.low_is) (eqb-false a b (not-true (eqb a b) s));
    }

-- of three records that ascend, the last two of different heights, the first is lower than the last
higher : (a b c : ℕ) → a ≤ b → b < c → (high_field b ≡ high_field c → ⊥) → high_field a < high_field c
unfolding high_field
higher a b c l m q = omega arith

-- the nodes below the first of a height are lower
below_lower : (w : Words) (n N k j : ℕ) → Reduced w n N → 0 < k → k ≤ N → (height w (k - 1) ≡ height w k → ⊥) → j < k → height w j < height w k
unfolding height
below_lower w n N zero j R p l q i = absurd (omega arith)
below_lower w n N (suc k) zero R p l q i = R.ordered.tall k l
below_lower w n N (suc zero) (suc j) R p l q i = absurd (omega arith)
below_lower w n N (suc (suc k)) (suc j) R p l q i =
    let e : suc (suc k) - 1 ≡ suc k = omega arith in
    higher (w (suc j)) (w (suc k)) (w (suc (suc k))) (rising w n N R j k (omega arith) (omega arith)) (R.ascends k l) (λ z. q (ap (height w) e ∙ z))

-- a word from the first of a height on and below the limit is of that height, and its then-edge is below `low`
module _ (first word low : ℕ) (few : low ≤ 536870912) (l : first ≤ word) (m : word < high_field first * 288230376151711744 + low * 536870912) where
  same_high : high_field word ≡ high_field first
  unfolding high_field
  same_high = omega arith

  middle_below : middle_field word < low
  unfolding high_field middle_field
  middle_below = omega arith

-- record i + 1, where those up to i pass and k is the first of its height
module _ (w : Words) (n k i : ℕ) (p : 0 < k) (few : k ≤ 268435455) (first : height w (k - 1) ≡ height w k → ⊥) (late : k ≤ i) (from : w k ≤ w i)
    (f : InLevel (w (suc i)) (w i) (height w k * 288230376151711744 + 2 * k * 536870912) (2 * k)) (e : check_records w n i ≡ pass) where
  R : Reduced w n i
  R = records_reduced w n i e

  limited : w (suc i) < high_field (w k) * 288230376151711744 + 2 * k * 536870912
  limited = rw (← height_node w k p) f.below

  level : height w (suc i) ≡ height w k
  level = height_node w (suc i) (omega arith) ∙ same_high (w k) (w (suc i)) (2 * k) (omega arith) (omega (arith, f.ascends)) limited ∙ sym (height_node w k p)

  -- an edge to a node below k leads below record i + 1, and lower
  leads_lower : (a : ℕ) → a < 2 * k → misled w (suc i) a ≡ false
  unfolding misled
  leads_lower a l =
      let b = below_lower w n i k (a / 2) R p late first (omega arith) in
      join_false (lt-leb (suc i) (a / 2) (omega arith)) (lt-leb (height w (suc i)) (height w (a / 2)) (omega (arith, level)))

  next_kept : check_record w n (suc i) ≡ pass
  unfolding check_record then_edge else_edge
  next_kept =
      let t = tall_node w n i R.ordered k p late in
      let b = height_le_settings w n i R.ordered k late in
      let q : suc i - 1 ≡ i = omega arith in
      let v = w (suc i) in
      rw (
        fitting n (height w (suc i)) (omega (arith, level)) (omega (arith, level)),
        join_false (leads_lower (middle_field v) (middle_below (w k) v (2 * k) (omega arith) (omega (arith, f.ascends)) limited)) (leads_lower (low_field v) f.else_below),
        and_false (ltb 1 (suc i)) (leb v (w (suc i - 1))) (λ _. rw q (lt-leb v (w i) f.ascends)),
        ne_eqb (middle_field v % 2) 1 (λ z. omega (arith, f.then_plain)),
        ne_eqb (middle_field v) (low_field v) f.differ,
      )

  next_passes : check_records w n (suc i) ≡ pass
  unfolding check_records
  next_passes = each_next (λ k. check_record w n (suc k)) i e ∙ next_kept

-- a turn of the code, which found k to be the first of its height h: the next record names nodes below k, and passes if those up to k do
pub level_next : (w : Words) (k h h' low limit i word before g a b : ℕ) → 0 < k → k ≤ 268435455 → h ≡ height w k → h' ≡ height w (k - 1) → (h' ≡ h → ⊥) → low ≡ 2 * k + indicator false
    → limit ≡ record_of h low 0 → k ≤ i → w k ≤ before → before ≡ w i → word ≡ w (i + 1) → InLevel word before limit low → HasFields word g a b → PassFrom w k i
    → (a / 2 < k) × (b / 2 < k) × PassFrom w k (i + 1)
unfolding indicator record_of
level_next w k h h' low limit i word before g a b p few h-is h'-is first low_is limit_is late from before-is word_is f F P =
    let l : low ≡ 2 * k = omega arith in
    let m : limit ≡ h * 288230376151711744 + low * 536870912 = omega arith in
    let t = middle_below (w k) word low (omega arith) (omega (arith, f.ascends)) (rw (← height_node w k p, ← h-is, ← m) f.below) in (
      omega (arith, F.middle_is),
      omega (arith, F.low_is, f.else_below),
      λ n e. rw add-one (next_passes w n k i p few (λ z. first (h'-is ∙ z ∙ sym h-is)) late (rw (← before-is) from)
          (rw (← h-is, ← l, ← m, ← before-is, ← add-one, ← word_is) f) (P n e)),
    )
