-- A turn of a run of checks, in the terms of the code. Assumes nothing.
use Prim.Native.Nat.{ℕ, suc, ◌+◌, ◌<◌}
use mathlib.Core.Path.{◌≡◌, sym, ap, ◌∙◌}
use native.Mathlib.Numerals.{add-one}
use Rattle.diagram.specs.Answer.{Answer, pass, each}
use Rattle.diagram.proofs.AnswerLaws.{refused_not, each_next, each_refused}
use Rattle.rules.specs.declared.Refusal.{Refusal}
use Rattle.std.specs.Prelude.{Result, Ok, Err, IsErrAnd}
use Rattle.std.proofs.lemmas.Result.{err_from_is_err_and}
use Rattle.rules.specs.Refusals.{number_of, place_of, verdict_as}

-- the first k pass, and v is the verdict on the next, number k + 1
module _ (f : ℕ → Answer (Unit {0})) (k : ℕ) (v : Result (Unit {0}) Refusal) (before : each (λ i. f (suc i)) k ≡ pass) (is : verdict_as v ≡ f (k + 1)) where
  is_next : verdict_as v ≡ f (suc k)
  is_next = rw add-one at is

  pub turn_refused : (m : ℕ) (r : Refusal) → k < m → v ≡ Err r → (verdict_as v ≡ each (λ i. f (suc i)) m) × (verdict_as v ≡ pass → ⊥)
  turn_refused m r l q =
      let e = ap verdict_as q in
      (e ∙ sym (each_refused (λ i. f (suc i)) m k (number_of r) (place_of r) l before (sym is_next ∙ e)), λ z. refused_not (sym e ∙ z))

  pub turn_passed : v ≡ Ok tt → each (λ i. f (suc i)) (k + 1) ≡ pass
  turn_passed q = rw add-one (each_next (λ i. f (suc i)) k before ∙ sym is_next ∙ ap verdict_as q)

-- what `?` hands on is the error itself
pub err_on : {V E : Type 0} {r : Result V E} {e : E} → IsErrAnd r (λ d. d ≡ e) → r ≡ Err e
err_on {r = r} h = let p = err_from_is_err_and r h in p.1 ∙ ap Err p.2
