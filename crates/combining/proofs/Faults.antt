-- A refusal that becomes a fault by `map_err`, in the terms of the code. Assumes nothing.
use Prim.Native.Nat.{ℕ}
use mathlib.Core.Path.{◌≡◌, refl, sym, ap, subst, ◌∙◌}
use Rattle.std.specs.Prelude.{Result, Ok, Err, IsErrAnd, MatchResult}
use Rattle.rules.specs.declared.Refusal.{Refusal}
use Rattle.rules.proofs.Turns.{err_on}
use Rattle.tables.specs.Answers.{written_as}
use Rattle.combining.specs.declared.Fault.{Fault}
use Rattle.combining.specs.declared.Fault.TheVariants.{Both}
use Rattle.combining.specs.Operations.{Reply}
use Rattle.combining.specs.Answers.{combined_as}

-- m is r with a refusal made into a fault
abbrev pub Mapped : {V : Type 0} → (Refusal → Fault) → Result V Refusal → Result V Fault → Type 0
Mapped made r m = MatchResult r (λ x. m ≡ Ok x) (λ e. IsErrAnd m (λ y. y ≡ made e))

abbrev value_or : {V : Type 0} → V → Result V Fault → V
value_or y (Ok v) = v
value_or y (Err f) = y

pub mapped_ok : {V : Type 0} (made : Refusal → Fault) (r : Result V Refusal) (m : Result V Fault) → Mapped made r m → (x : V) → m ≡ Ok x → r ≡ Ok x
mapped_ok made (Ok y) m h x q = ap (λ z. Ok (value_or y z)) (sym h ∙ q)
mapped_ok made (Err e) m h x q = absurd (subst (λ z. IsErrAnd z (λ y. y ≡ made e)) q h)

pub mapped_err : {V : Type 0} (made : Refusal → Fault) (r : Result V Refusal) (m : Result V Fault) → Mapped made r m → (f : Fault) → m ≡ Err f → (e : Refusal) × (r ≡ Err e) × (f ≡ made e)
mapped_err made (Ok y) m h f q = absurd (subst (λ z. MatchResult z (λ _. Unit {0}) (λ _. ⊥)) (sym h ∙ q) tt)
mapped_err made (Err e) m h f q = (e, refl, subst (λ z. IsErrAnd z (λ y. y ≡ made e)) q h)

pub mapped_both : (r : Result ℕ Refusal) (m : Result ℕ Fault) → Mapped Both r m → combined_as m ≡ (0, written_as r)
mapped_both (Ok y) m h = ap combined_as h
mapped_both (Err e) m h = ap combined_as (err_on h)
