-- What the root edges lead to: it contains their pair, following keeps it, it is the least such set, and all but the first have a parent. Assumes nothing.
use Prim.Native.Nat.{ℕ, zero, suc, ◌≤◌, ◌<◌}
use mathlib.Core.Path.{◌≡◌, refl, sym, ap, subst}
use mathlib.Core.Bool.{Bool, true, false}
use mathlib.Core.Logic.{◌⊎◌, inl, inr, ⊎_elim}
use mathlib.Core.List.{List}
use native.Mathlib.Omega.{arith}
use lib.Dec.{eqb, ltb}
use borrow.Author.Tests.{eqb-true, eq-eqb, ltb-true, lt-ltb}
use Rattle.words.specs.Words.{word_at}
use Rattle.words.proofs.Cases.{less, same, more, tri, or_true, or_either, both_true}
use Rattle.diagram.specs.Format.{Words}
use Rattle.pairing.specs.Pairs.{pair_of, pair_height, follow, leads, reached}
use Rattle.pairing.specs.Inner.{PairWithin}
use Rattle.pairing.proofs.Pairs.{follow_within, follow_lower}

module _ (w v : Words) where
  -- a pair leads to itself
  pub leads_self : (d k : ℕ) → leads w v d k k ≡ true
  unfolding leads
  leads_self zero k = eq-eqb k k refl
  leads_self (suc d) k = rw (eq-eqb k k refl)

  -- by one of the two sides
  leads_on : (d from to : ℕ) → 0 < pair_height w v from → (on : Bool) → leads w v d (follow w v on from) to ≡ true → leads w v (suc d) from to ≡ true
  unfolding leads
  leads_on d from to l true e = or_either (eqb from to) (rw (lt-ltb 0 (pair_height w v from) l, e))
  leads_on d from to l false e = or_either (eqb from to) (rw (lt-ltb 0 (pair_height w v from) l) (or_either (leads w v d (follow w v true from) to) e))

  -- where a pair leads: to itself, or on by a side
  leads_cases : (d from to : ℕ) → leads w v (suc d) from to ≡ true
      → (from ≡ to) ⊎ ((0 < pair_height w v from) × ((leads w v d (follow w v true from) to ≡ true) ⊎ (leads w v d (follow w v false from) to ≡ true)))
  unfolding leads
  leads_cases d from to e =
      ⊎_elim (λ p. inl (eqb-true from to p))
      (λ p. let q = both_true (ltb 0 (pair_height w v from)) _ p in inr (ltb-true 0 (pair_height w v from) q.0, or_true _ _ q.1))
      (or_true (eqb from to) _ e)

  -- a set with the first pair that following keeps has all
  pub leads_within : (Q : ℕ → Type 0) → ((k : ℕ) → Q k → 0 < pair_height w v k → (on : Bool) → Q (follow w v on k))
      → (d from to : ℕ) → Q from → leads w v d from to ≡ true → Q to
  unfolding leads
  leads_within Q keep zero from to q e = subst Q (eqb-true from to e) q
  leads_within Q keep (suc d) from to q e =
      ⊎_elim (λ p. subst Q p q)
      (λ p. ⊎_elim (λ r. leads_within Q keep d (follow w v true from) to (keep from q p.0 true) r)
      (λ r. leads_within Q keep d (follow w v false from) to (keep from q p.0 false) r) p.1)
      (leads_cases d from to e)

  -- a pair that is led to, and leads to another by one step
  abbrev Parent : ℕ → ℕ → ℕ → Type 0
  Parent d from to = (q : ℕ) × (on : Bool) × (0 < pair_height w v q) × (leads w v d from q ≡ true) × (follow w v on q ≡ to)

  -- a pair that another leads to is that one, or has such a parent
  leads_parent : (d from to : ℕ) → leads w v d from to ≡ true → (to ≡ from → ⊥) → Parent d from to
  leads_parent zero from to e n = unfold leads in absurd (n (sym (eqb-true from to e)))
  leads_parent (suc d) from to e n =
      ⊎_elim (λ p. absurd (n (sym p)))
      (λ p. ⊎_elim (λ r. side true p.0 (leads_parent d (follow w v true from) to r)) (λ r. side false p.0 (leads_parent d (follow w v false from) to r)) p.1)
      (leads_cases d from to e)
    where
      later : (b : Bool) → 0 < pair_height w v from → Parent d (follow w v b from) to → Parent (suc d) from to
      later b l i = (i.0, i.1, i.2, leads_on d from i.0 l b i.3, i.4)

      side : (b : Bool) → 0 < pair_height w v from → ((to ≡ follow w v b from → ⊥) → Parent d (follow w v b from) to) → Parent (suc d) from to
      side b l further = elim (tri to (follow w v b from)) [
        | less q ↦ later b l (further (λ e. omega arith))
        | same q ↦ (from, b, l, leads_self (suc d) from, sym q)
        | more q ↦ later b l (further (λ e. omega arith))
      ]

  -- a pair that is reached is the first, or is what another one leads to by one step
  pub reached_parent : (n a b pair : ℕ) → reached w v n a b pair ≡ true → (pair ≡ pair_of a b → ⊥)
      → (q : ℕ) × (on : Bool) × (0 < pair_height w v q) × (reached w v n a b q ≡ true) × (follow w v on q ≡ pair)
  unfolding reached
  reached_parent n a b pair e m = leads_parent n (pair_of a b) pair e m

-- following keeps it, if there are as many steps as the first pair is high
module _ (t u : List ℕ) where
  abbrev w : Words
  w = word_at t

  abbrev v : Words
  v = word_at u

  pub leads_keep : (d from k : ℕ) → PairWithin t u from → pair_height w v from ≤ d → leads w v d from k ≡ true → 0 < pair_height w v k → (on : Bool)
      → leads w v d from (follow w v on k) ≡ true
  leads_keep zero from k I l e some on = unfold leads in absurd (omega (arith, ap (pair_height w v) (eqb-true from k e)))
  leads_keep (suc d) from k I l e some on =
      let side : (b : Bool) → 0 < pair_height w v from → leads w v d (follow w v b from) k ≡ true → leads w v (suc d) from (follow w v on k) ≡ true = λ b p r.
      let i = follow_lower t u from I p b in
      leads_on w v d from (follow w v on k) p b (leads_keep d (follow w v b from) k (follow_within t u from I p b) (omega arith) r some on) in
      ⊎_elim (λ p. leads_on w v d from (follow w v on k) (omega (arith, ap (pair_height w v) p)) on (rw p (leads_self w v d (follow w v on k))))
      (λ p. ⊎_elim (λ r. side true p.0 r) (λ r. side false p.0 r) p.1)
      (leads_cases w v d from k e)
