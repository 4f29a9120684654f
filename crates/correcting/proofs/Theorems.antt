-- Request 12, as theorems about the operation beside the check, the test and the count. Assumes nothing.
use Prim.Native.Nat.{ℕ, ◌^◌, ◌<◌}
use mathlib.Core.Path.{◌≡◌, refl, sym, ap, subst, ◌∙◌}
use mathlib.Core.Logic.{◌↔◌, ◌≢◌}
use mathlib.Core.Bool.{Bool, true}
use mathlib.Core.List.{List}
use native.Mathlib.Nat.{div-eq_of_lt, mod-eq_of_lt}
use native.Mathlib.Omega.{arith}
use lib.Bits.{bit_xor, xor_lt}
use lib.Count.{ones}
use borrow.Author.Tests.{lt-leb}
use Rattle.words.specs.Words.{word_at}
use Rattle.diagram.specs.Format.{Words, settings, nodes}
use Rattle.diagram.specs.Meaning.{permitted}
use Rattle.diagram.specs.Count.{total}
use Rattle.diagram.specs.Answer.{Answer, value, refusal, and_then}
use Rattle.diagram.proofs.AnswerLaws.{then_some}
use Rattle.diagram.proofs.CountLaws.{count_none, none_counted}
use Rattle.diagram.proofs.Refusals.{then_refuses}
use Rattle.checking.specs.Operations.{checking, checking_for, test_setup, testing, blank_for}
use Rattle.checking.specs.Sheets.{HandedBack}
use Rattle.checking.proofs.Answering.{test_is}
use Rattle.checking.proofs.Bounds.{test_refuses}
use Rattle.checking.proofs.Blank.{Late, hands_back}
use Rattle.distances.proofs.Distances.{dist_self, dist_same, dist_ones}
use Rattle.distances.proofs.Near.{own_nearest}
use Rattle.correcting.specs.Search.{closest, IsClosest}
use Rattle.correcting.specs.Operations.{needed, closest_setup, correcting}
use Rattle.correcting.proofs.Searching.{closest_is, is_closest, closest_none, none_closest, nearest_closest, closest_refuses}

module _ (t s : List ℕ) (x : ℕ) where
  abbrev w : Words
  w = word_at t

  abbrev n : ℕ
  n = settings w

  abbrev P : ℕ → Bool
  P = permitted w

  -- what is answered, on an accepted table with enough places and a setup in range, is the closest
  comes_to : (v : ℕ × ℕ) → checking_for needed t s ≡ value v → x < 2 ^ n → correcting t x s ≡ closest P n x
  unfolding correcting closest_setup test_setup and_then
  comes_to v e l = rw (e, lt-leb (2 ^ n) x l)

  came_to : (v : ℕ × ℕ) → correcting t x s ≡ value v → (x < 2 ^ n) × (closest P n x ≡ value v)
  unfolding correcting closest_setup
  came_to v e =
      let a = then_some (checking_for needed t s) _ e in
      let b = then_some (test_setup x n P) _ a.2 in
      ((test_is n x P b.0 b.1).0, b.2)

  -- the answer is permitted and differs in so many settings, none differs in fewer, and it is the smallest among equals
  pub answered_closest : (y d : ℕ) → correcting t x s ≡ value (y, d) → IsClosest P n x y d
  answered_closest y d e = is_closest P n x y d (came_to (y, d) e).1

  -- and what is all that is the answer, with any sheet on which the check passes
  pub closest_answered : (v : ℕ × ℕ) → checking_for needed t s ≡ value v → x < 2 ^ n → (y d : ℕ) → IsClosest P n x y d → correcting t x s ≡ value (y, d)
  closest_answered v e l y d C = comes_to v e l ∙ closest_is P n x y d C

  -- the number is the count of ones of the two setups' exclusive or
  pub answered_ones : (y d : ℕ) → correcting t x s ≡ value (y, d) → d ≡ ones (bit_xor x y)
  answered_ones y d e =
      let C = answered_closest y d e in
      sym C.differs ∙ dist_ones n x y ∙ ap ones (mod-eq_of_lt (xor_lt n x y (came_to (y, d) e).0 C.below))

  -- a permitted setup is its own answer with 0, whatever sheet the test was lent
  pub own_answer : (v : ℕ × ℕ) → checking_for needed t s ≡ value v → (s' : List ℕ) → testing t x s' ≡ value true → correcting t x s ≡ value (x, 0)
  unfolding testing
  own_answer v e s' q =
      let i = test_is n x P true (then_some (checking t s') _ q).2 in
      closest_answered v e i.0 x 0 (subst (IsClosest P n x x) (dist_self n x) (nearest_closest P n x x i.0 (own_nearest P n x i.1)))

  -- ... and no other setup has 0
  pub zero_own : (y : ℕ) → correcting t x s ≡ value (y, 0) → (y ≡ x) × (P x ≡ true)
  zero_own y e =
      let C = answered_closest y 0 e in
      let same = dist_same n x y (div-eq_of_lt C.below ∙ sym (div-eq_of_lt (came_to (y, 0) e).0)) C.differs in
      (same, ap P (sym same) ∙ C.permits_it)

  -- 21 exactly where C = 0, on an accepted table with enough places and a setup in range
  pub none_exactly : (v : ℕ × ℕ) → checking_for needed t s ≡ value v → x < 2 ^ n → (correcting t x s ≡ refusal 21 0) ↔ (total w ≡ 0)
  unfolding total
  none_exactly v e l = (
    λ q. count_none P (2 ^ n) (none_closest P n x 21 0 (sym (comes_to v e l) ∙ q)),
    λ z. comes_to v e l ∙ closest_none P n x (none_counted P (2 ^ n) z),
  )

  -- all other refusals are those of the check, by 2 × (N + 1) places, and of the test
  pub refused_alike : (number place : ℕ) → number ≢ 21 → (correcting t x s ≡ refusal number place) ↔ (and_then (checking_for needed t s) (λ _. test_setup x n P) ≡ refusal number place)
  unfolding correcting closest_setup and_then
  refused_alike number place other = (to (checking_for needed t s), from (checking_for needed t s))
    where
      tested : (b : Answer Bool) → and_then b (λ _. closest P n x) ≡ refusal number place → b ≡ refusal number place
      tested (value c) e = absurd (other (closest_refuses (λ m _. m ≡ 21) refl P n x number place e))
      tested (refusal m p) e = let i : m ≡ number = cc in let j : p ≡ place = cc in rw (i, j)

      to : (a : Answer (ℕ × ℕ)) → and_then a (λ _. and_then (test_setup x n P) (λ _. closest P n x)) ≡ refusal number place → and_then a (λ _. test_setup x n P) ≡ refusal number place
      to (value v) e = tested (test_setup x n P) e
      to (refusal m p) e = let i : m ≡ number = cc in let j : p ≡ place = cc in rw (i, j)

      from : (a : Answer (ℕ × ℕ)) → and_then a (λ _. test_setup x n P) ≡ refusal number place → and_then a (λ _. and_then (test_setup x n P) (λ _. closest P n x)) ≡ refusal number place
      from (value v) e = ap (λ b. and_then b (λ _. closest P n x)) e
      from (refusal m p) e = let i : m ≡ number = cc in let j : p ≡ place = cc in rw (i, j)

  -- the sheet is handed back as asked
  pub correcting_back : HandedBack (needed (nodes w)) (correcting t x s) s (blank_for needed t s)
  unfolding correcting closest_setup
  correcting_back = hands_back needed t s _ (λ _. then_refuses Late (test_setup x n P) _ (test_refuses Late (omega arith) x n P) (λ _ _. closest_refuses Late (omega arith) P n x))
