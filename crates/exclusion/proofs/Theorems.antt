-- Request 6, as theorems about the operation beside the test and the count. Assumes nothing.
use Prim.Native.Nat.{ℕ, ◌+◌, ◌^◌, ◌≤◌, ◌<◌}
use mathlib.Core.Path.{◌≡◌, refl, sym, ap, ◌∙◌}
use mathlib.Core.Logic.{◌↔◌}
use mathlib.Core.Bool.{Bool, true, false}
use mathlib.Core.List.{List}
use mathlib.Core.Option.{none, some}
use native.Mathlib.Omega.{arith}
use Rattle.words.specs.Words.{word_at}
use Rattle.diagram.specs.Format.{Words, settings, nodes}
use Rattle.diagram.specs.Meaning.{permitted}
use Rattle.diagram.specs.Count.{total}
use Rattle.diagram.specs.Answer.{Answer, value, refusal, and_then}
use Rattle.diagram.proofs.AnswerLaws.{value_inj, then_some, then_refused}
use Rattle.diagram.proofs.Refusals.{passes, then_refuses}
use Rattle.checking.specs.Operations.{checking, test_setup, testing, blank}
use Rattle.checking.specs.Sheets.{HandedBack}
use Rattle.checking.proofs.Answering.{test_is}
use Rattle.checking.proofs.Bounds.{test_refuses}
use Rattle.checking.proofs.Blank.{Late, hands_back}
use Rattle.exclusion.specs.Finding.{is_permitted, ruled_out, Finding, finding, IsGiven}
use Rattle.exclusion.specs.Operations.{find_setup, ruling_out}
use Rattle.exclusion.proofs.Begins.{finds_permitted}
use Rattle.exclusion.proofs.Ruled as ruled

module _ (t s : List ℕ) (x : ℕ) where
  abbrev w : Words
  w = word_at t

  abbrev n : ℕ
  n = settings w

  abbrev P : ℕ → Bool
  P = permitted w

  -- it is the test, and then what is found
  after_test : ruling_out t x s ≡ and_then (testing t x s) (λ _. value (finding P n x))
  unfolding ruling_out find_setup testing and_then
  after_test = go (checking t s)
    where
      go : (a : Answer (ℕ × ℕ)) → and_then a (λ _. and_then (test_setup x n P) (λ _. value (finding P n x))) ≡ and_then (and_then a (λ _. test_setup x n P)) (λ _. value (finding P n x))
      go (value v) = refl
      go (refusal number place) = refl

  -- what the test answers
  tested_is : (b : Bool) → testing t x s ≡ value b → (x < 2 ^ n) × (P x ≡ b)
  unfolding testing
  tested_is b e = test_is n x P b (then_some (checking t s) _ e).2

  -- where the test answers, what is found is answered, and only there
  finds : (b : Bool) → testing t x s ≡ value b → ruling_out t x s ≡ value (finding P n x)
  unfolding and_then
  finds b e = after_test ∙ ap (λ a. and_then a (λ _. value (finding P n x))) e

  found : (f : Finding) → ruling_out t x s ≡ value f → (testing t x s ≡ value (P x)) × (x < 2 ^ n) × (finding P n x ≡ f)
  found f e =
      let a = then_some (testing t x s) (λ _. value (finding P n x)) (sym after_test ∙ e) in
      let i = tested_is a.0 a.1 in
      (a.1 ∙ ap value (sym i.1), i.0, value_inj a.2)

  -- it refuses what the test refuses, and nothing else: there is no 13
  pub refused_alike : (number place : ℕ) → (ruling_out t x s ≡ refusal number place) ↔ (testing t x s ≡ refusal number place)
  refused_alike number place = (λ e. law.0 (sym after_test ∙ e), λ e. after_test ∙ law.1 e)
    where
      law : (and_then (testing t x s) (λ _. value (finding P n x)) ≡ refusal number place) ↔ (testing t x s ≡ refusal number place)
      law = then_refused (testing t x s) (λ _. finding P n x) number place

  -- what is answered as permitted is what the test permits
  pub permitted_alike : (ruling_out t x s ≡ value is_permitted) ↔ (testing t x s ≡ value true)
  permitted_alike = (
    λ e. (let f = found is_permitted e in f.0 ∙ ap value (ruled.permitted_if P n x f.1 f.2)),
    λ e. (let i = tested_is true e in finds true e ∙ ap value (finds_permitted P n x i.0 i.1)),
  )

  -- of every setup that can be tested: p is 0 exactly where C is
  pub zero_where_empty : (b : Bool) → testing t x s ≡ value b → (ruling_out t x s ≡ value (ruled_out 0 none)) ↔ (total w ≡ 0)
  unfolding total
  zero_where_empty b e =
      let exactly = ruled.zero_exactly P n x (tested_is b e).0 in
      (λ r. exactly.0 (found (ruled_out 0 none) r).2, λ z. finds b e ∙ ap value (exactly.1 z))

  -- no setup is given only there
  pub none_where_empty : (p : ℕ) → ruling_out t x s ≡ value (ruled_out p none) → (p ≡ 0) × (total w ≡ 0)
  unfolding total
  none_where_empty p e = let f = found (ruled_out p none) e in ruled.none_given P n x f.1 p f.2

  -- an unpermitted setup of a table that permits some has a p from 1 to n, and is given a setup
  pub ruled_where_not : testing t x s ≡ value false → 0 < total w → (p : ℕ) × (y : ℕ) × (ruling_out t x s ≡ value (ruled_out p (some y))) × (1 ≤ p) × (p ≤ n)
  unfolding total
  ruled_where_not e l =
      let i = tested_is false e in
      let r = ruled.ruled_between P n x i.0 i.1 l in
      (r.0, r.1, finds false e ∙ ap value r.2, r.3, r.4)

  -- the setup given is permitted, agrees before setting p and differs there
  pub given_differs : (p y : ℕ) → ruling_out t x s ≡ value (ruled_out p (some y)) → IsGiven P n x p y
  given_differs p y e = let f = found (ruled_out p (some y)) e in ruled.given_is P n x f.1 p y f.2

  -- the sheet is handed back as asked
  pub ruling_back : HandedBack (nodes w + 1) (ruling_out t x s) s (blank t s)
  unfolding ruling_out find_setup
  ruling_back = hands_back (λ N. N + 1) t s _ (λ _. then_refuses Late (test_setup x n P) _ (test_refuses Late (omega arith) x n P) (λ _ _. passes Late (finding P n x)))
