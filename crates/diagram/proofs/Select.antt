-- Selecting undoes counting: the number that passes a test with r smaller ones is one only, and there is one for each r below the count. Assumes nothing.
use Prim.Native.Nat.{ℕ, zero, suc, ◌≤◌, ◌<◌}
use mathlib.Core.Path.{◌≡◌, refl, sym, ap, ◌∙◌, subst}
use mathlib.Core.Bool.{Bool, true, false, ◌&&◌, cond, true≢false}
use mathlib.Core.Option.{Option, none, some}
use native.Mathlib.Omega.{arith}
use lib.Dec.{eqb}
use borrow.Author.Tests.{eqb-true, eqb-false}
use Rattle.words.proofs.Cases.{Tri, less, same, more, tri}
use Rattle.diagram.specs.Count.{indicator, count_below, select, smallest}
use Rattle.diagram.proofs.CountLaws.{count_cong, count_none, count_mono_lt, none_counted}

-- what a selected number is
pub record Selected (P : ℕ → Bool) (m r x : ℕ) : Type 0 where
  pub below : x < m
  pub passes : P x ≡ true
  pub rank : count_below P x ≡ r

wider : {P : ℕ → Bool} {m r x : ℕ} → Selected P m r x → Selected P (suc m) r x
wider s = record { below = omega (arith, s.below); passes = s.passes; rank = s.rank }

pub select_some : (P : ℕ → Bool) (m r x : ℕ) → select P m r ≡ some x → Selected P m r x
unfolding select
select_some P zero r x e = let z : ◌≡◌ {A = ℕ} 0 1 = cc in absurd (omega arith)
select_some P (suc m) r x e = go (P m) (eqb (count_below P m) r) refl refl e (λ e'. select_some P m r x e')
  where
    go : (a b : Bool) → P m ≡ a → eqb (count_below P m) r ≡ b → cond (a && b) (some m) (select P m r) ≡ some x
        → (select P m r ≡ some x → Selected P m r x) → Selected P (suc m) r x
    go true true p q e f =
        let s : m ≡ x = cc in
        record { below = omega arith; passes = ap P (sym s) ∙ p; rank = ap (count_below P) (sym s) ∙ eqb-true (count_below P m) r q }
    go true false p q e f = wider (f e)
    go false b p q e f = wider (f e)

-- numbers that pass and have as many smaller ones are one number
pub rank_inj : (P : ℕ → Bool) (x y : ℕ) → P x ≡ true → P y ≡ true → count_below P x ≡ count_below P y → x ≡ y
rank_inj P x y p q e =
    elim (tri x y) [ less l ↦ omega (arith, count_mono_lt P p l) | same s ↦ s | more l ↦ omega (arith, count_mono_lt P q l) ]

-- a number that passes is selected by the count of smaller ones
pub select_at : (P : ℕ → Bool) (m x : ℕ) → P x ≡ true → x < m → select P m (count_below P x) ≡ some x
unfolding select
select_at P zero x p l = absurd (omega arith)
select_at P (suc m) x p l = go (P m) (eqb (count_below P m) (count_below P x)) refl refl (λ l'. select_at P m x p l')
  where
    before : (m ≡ x → ⊥) → (x < m → select P m (count_below P x) ≡ some x) → select P m (count_below P x) ≡ some x
    before n f = f (elim (tri x m) [ less l' ↦ l' | same s ↦ absurd (n (sym s)) | more l' ↦ omega arith ])

    go : (a b : Bool) → P m ≡ a → eqb (count_below P m) (count_below P x) ≡ b → (x < m → select P m (count_below P x) ≡ some x)
        → cond (a && b) (some m) (select P m (count_below P x)) ≡ some x
    go true true q r f = ap some (rank_inj P m x q p (eqb-true (count_below P m) (count_below P x) r))
    go true false q r f = before (λ s. eqb-false (count_below P m) (count_below P x) r (ap (count_below P) s)) f
    go false b q r f = before (λ s. true≢false (sym p ∙ ap P (sym s) ∙ q)) f

pub select_of : (P : ℕ → Bool) (m r x : ℕ) → Selected P m r x → select P m r ≡ some x
select_of P m r x s = subst (λ (q : ℕ). select P m q ≡ some x) s.rank (select_at P m x s.passes s.below)

-- there is one for each r below the count
pub ranked : (P : ℕ → Bool) (m r : ℕ) → r < count_below P m → (x : ℕ) × Selected P m r x
unfolding count_below indicator
ranked P zero r l = absurd (omega arith)
ranked P (suc m) r l = go (P m) refl (tri r (count_below P m)) (λ l'. ranked P m r l')
  where
    go : (a : Bool) → P m ≡ a → Tri r (count_below P m) → (r < count_below P m → (x : ℕ) × Selected P m r x) → (x : ℕ) × Selected P (suc m) r x
    go a p (less l') f = let s = f l' in (s.0, wider s.1)
    go true p (same e) f = (m, record { below = omega arith; passes = p; rank = sym e })
    go false p (same e) f = absurd (omega (arith, ap indicator p))
    go true p (more l') f = absurd (omega (arith, ap indicator p))
    go false p (more l') f = absurd (omega (arith, ap indicator p))

-- ... and none from the count on
pub select_none : (P : ℕ → Bool) (m r : ℕ) → count_below P m ≤ r → select P m r ≡ none
select_none P m r l = go (select P m r) refl
  where
    go : (o : Option ℕ) → select P m r ≡ o → o ≡ none
    go none e = refl
    go (some x) e =
        let s = select_some P m r x e in
        absurd (omega (arith, s.rank, count_mono_lt P s.passes s.below))

-- tests that agree select the same
pub selected_cong : (P Q : ℕ → Bool) (m r x : ℕ) → ((y : ℕ) → y < m → P y ≡ Q y) → Selected P m r x → Selected Q m r x
selected_cong P Q m r x h s =
    let l = s.below in
    record { below = l; passes = sym (h x l) ∙ s.passes; rank = sym (count_cong P Q x (λ y q. h y (omega arith))) ∙ s.rank }

-- what the smallest number that passes is
pub record Least (P : ℕ → Bool) (m x : ℕ) : Type 0 where
  pub below : x < m
  pub passes : P x ≡ true
  pub least : (y : ℕ) → y < m → P y ≡ true → x ≤ y

pub smallest_is : (P : ℕ → Bool) (m x : ℕ) → Least P m x → smallest P m ≡ some x
unfolding smallest
smallest_is P m x l = select_of P m 0 x (record { below = l.below; passes = l.passes; rank = count_none P x (λ y i. go y i (P y) refl) })
  where
    go : (y : ℕ) → y < x → (b : Bool) → P y ≡ b → P y ≡ false
    go y i true p = absurd (omega (arith, l.least y (omega (arith, l.below)) p))
    go y i false p = p

pub smallest_least : (P : ℕ → Bool) (m x : ℕ) → smallest P m ≡ some x → Least P m x
unfolding smallest
smallest_least P m x e =
    let s = select_some P m 0 x e in
    record {
      below = s.below;
      passes = s.passes;
      least = λ y i p. elim (tri x y) [ less l ↦ omega arith | same q ↦ omega arith | more l ↦ absurd (omega (arith, s.rank, count_mono_lt P p l)) ];
    }

-- none passes
pub smallest_none : (P : ℕ → Bool) (m : ℕ) → ((x : ℕ) → x < m → P x ≡ false) → smallest P m ≡ none
unfolding smallest
smallest_none P m f = select_none P m 0 (omega (arith, count_none P m f))

pub none_smallest : (P : ℕ → Bool) (m : ℕ) → smallest P m ≡ none → (x : ℕ) → x < m → P x ≡ false
unfolding smallest
none_smallest P m e =
    elim (tri 0 (count_below P m)) [
      | less l ↦ (
          let s = ranked P m 0 l in
          let q : none ≡ some s.0 = sym e ∙ select_of P m 0 s.0 s.1 in
          let z : ◌≡◌ {A = ℕ} 0 1 = cc in
          absurd (omega arith))
      | same z ↦ none_counted P m (sym z)
      | more l ↦ absurd (omega arith)
    ]
