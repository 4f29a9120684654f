-- The laws of answers, of a run of checks, and of a search. Assumes nothing.
use Prim.Native.Nat.{ℕ, zero, suc, ◌<◌}
use mathlib.Core.Path.{◌≡◌, refl, sym, ap, ◌∙◌, subst}
use mathlib.Core.Logic.{◌⊎◌, inl, inr, ◌↔◌}
use mathlib.Core.Bool.{Bool, true, false, cond, ◌||◌, true≢false}
use mathlib.Core.Option.{Option, none, some}
use native.Mathlib.Omega.{arith}
use Rattle.words.proofs.Cases.{less, same, more, tri, or_either}
use Rattle.diagram.specs.Count.{some_below}
use Rattle.diagram.specs.Answer.{Answer, value, refusal, and_then, or_refuse, pass, each}

-- a refusal is no value
pub refused_not : {A : Type 0} {r p : ℕ} {a : A} → refusal r p ≡ value a → ⊥
refused_not e = let z : ◌≡◌ {A = ℕ} 0 1 = cc in omega arith

pub value_inj : {A : Type 0} {a b : A} → value a ≡ value b → a ≡ b
value_inj e = cc

-- what was found
pub or_some : {A : Type 0} (number : ℕ) (o : Option A) {a : A} → or_refuse number o ≡ value a → o ≡ some a
unfolding or_refuse
or_some number none e = absurd (refused_not e)
or_some number (some b) e = ap some (value_inj e)

-- what yields a value went through its first step
pub then_some : {A B : Type 0} (a : Answer A) (f : A → Answer B) {b : B} → and_then a f ≡ value b → (v : A) × (a ≡ value v) × (f v ≡ value b)
unfolding and_then
then_some (value v) f e = (v, refl, e)
then_some (refusal r p) f e = absurd (refused_not e)

pub then_value : {B : Type 0} (a : Answer (Unit {0})) (f : Unit {0} → Answer B) {b : B} → and_then a f ≡ value b → (a ≡ pass) × (f tt ≡ value b)
then_value a f e = let s = then_some a f e in (s.1, s.2)

-- what always goes on to a value refuses as its first step does, and only so
pub then_refused : {A B : Type 0} (a : Answer A) (f : A → B) (number place : ℕ) → (and_then a (λ v. value (f v)) ≡ refusal number place) ↔ (a ≡ refusal number place)
unfolding and_then
then_refused {A = A} a f number place = (back a, λ e. ap (λ b. and_then b (λ v. value (f v))) e)
  where
    back : (a : Answer A) → and_then a (λ v. value (f v)) ≡ refusal number place → a ≡ refusal number place
    back (value v) e = absurd (refused_not (sym e))
    back (refusal number' place') e = let i : number' ≡ number = cc in let j : place' ≡ place = cc in rw (i, j)

-- a refusal on a condition, and then more
pub then_unless : {A B : Type 0} (b : Bool) (r p : ℕ) (v : A) (f : A → Answer B) → and_then (cond b (refusal r p) (value v)) f ≡ cond b (refusal r p) (f v)
unfolding and_then
then_unless true r p v f = refl
then_unless false r p v f = refl

-- a run of checks passes if each does
pub each_all : (f : ℕ → Answer (Unit {0})) (m : ℕ) → each f m ≡ pass → (k : ℕ) → k < m → f k ≡ pass
unfolding each
each_all f zero e k l = absurd (omega arith)
each_all f (suc m) e k l =
    let a = then_value (each f m) (λ _. f m) e in
    elim (tri k m) [ less i ↦ each_all f m a.0 k i | same i ↦ rw i a.1 | more i ↦ absurd (omega arith) ]

-- one more check of a run
pub each_next : (f : ℕ → Answer (Unit {0})) (m : ℕ) → each f m ≡ pass → each f (suc m) ≡ f m
unfolding each and_then
each_next f m e = rw e

pub all_each : (f : ℕ → Answer (Unit {0})) (m : ℕ) → ((k : ℕ) → k < m → f k ≡ pass) → each f m ≡ pass
unfolding each
all_each f zero h = refl
all_each f (suc m) h = each_next f m (all_each f m (λ k l. h k (omega arith))) ∙ h m (omega arith)

-- runs of checks that agree
pub each_cong : (f g : ℕ → Answer (Unit {0})) (m : ℕ) → ((k : ℕ) → k < m → f k ≡ g k) → each f m ≡ each g m
unfolding each
each_cong f g zero h = refl
each_cong f g (suc m) h = rw (each_cong f g m (λ k l. h k (omega arith)), h m (omega arith))

-- ... or that agree where P does not hold: they come to the same, or the second reaches a check at which P holds
pub each_agree : (P : ℕ → Type 0) (f g : ℕ → Answer (Unit {0})) (m : ℕ) → ((k : ℕ) → P k ⊎ (f k ≡ g k))
    → ((k : ℕ) × (k < m) × (each g k ≡ pass) × P k) ⊎ (each f m ≡ each g m)
unfolding each and_then
each_agree P f g zero h = inr refl
each_agree P f g (suc m) h = elim (each_agree P f g m h) [ inl (k, l, e, p) ↦ inl (k, omega arith, e, p) | inr q ↦ go (each g m) refl q (h m) ]
  where
    go : (a : Answer (Unit {0})) → each g m ≡ a → each f m ≡ each g m → P m ⊎ (f m ≡ g m) → ((k : ℕ) × (k < suc m) × (each g k ≡ pass) × P k) ⊎ (each f (suc m) ≡ each g (suc m))
    go (refusal r p) e q s = inr (rw (q, e))
    go (value v) e q (inl p) = inl (m, omega arith, e, p)
    go (value v) e q (inr s) = inr (rw (q, s))

-- a run that does not pass comes to its first refusal
pub each_refused : (f : ℕ → Answer (Unit {0})) (m k r p : ℕ) → k < m → each f k ≡ pass → f k ≡ refusal r p → each f m ≡ refusal r p
unfolding each and_then
each_refused f zero k r p l e q = absurd (omega arith)
each_refused f (suc m) k r p l e q =
    elim (tri k m) [
      | less i ↦ rw (each_refused f m k r p i e q)
      | same i ↦ subst (λ (j : ℕ). each f (suc j) ≡ refusal r p) i (each_next f k e ∙ q)
      | more i ↦ absurd (omega arith)
    ]

-- a search that succeeds, both ways
pub some_at : (P : ℕ → Bool) (m x : ℕ) → x < m → P x ≡ true → some_below P m ≡ true
unfolding some_below
some_at P zero x l p = absurd (omega arith)
some_at P (suc m) x l p =
    elim (tri x m) [ less i ↦ rw (some_at P m x i p) | same i ↦ or_either (some_below P m) (subst (λ (j : ℕ). P j ≡ true) i p) | more i ↦ absurd (omega arith) ]

pub some_found : (P : ℕ → Bool) (m : ℕ) → some_below P m ≡ true → (x : ℕ) × (x < m) × (P x ≡ true)
unfolding some_below
some_found P zero e = absurd (true≢false (sym e))
some_found P (suc m) e = go (some_below P m) refl e (λ f. some_found P m f)
  where
    go : (b : Bool) → some_below P m ≡ b → (b || P m) ≡ true → (some_below P m ≡ true → (x : ℕ) × (x < m) × (P x ≡ true)) → (x : ℕ) × (x < suc m) × (P x ≡ true)
    go true p q f = let s = f p in (s.0, omega (arith, s.1), s.2)
    go false p q f = (m, omega arith, q)

-- searches of tests that agree
pub some_cong : (P Q : ℕ → Bool) (m : ℕ) → ((x : ℕ) → x < m → P x ≡ Q x) → some_below P m ≡ some_below Q m
unfolding some_below
some_cong P Q zero h = refl
some_cong P Q (suc m) h = rw (some_cong P Q m (λ x l. h x (omega arith)), h m (omega arith))
