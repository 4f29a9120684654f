-- Counting what a list of distinct numbers holds. Assumes nothing.
use Prim.Native.Nat.{ℕ, zero, suc, ◌+◌, ◌≤◌, ◌<◌}
use mathlib.Core.Path.{◌≡◌, refl, sym, ap, ◌∙◌}
use mathlib.Core.Bool.{Bool, true, false, ◌&&◌, not}
use native.Mathlib.Omega.{arith}
use lib.Dec.{eqb}
use borrow.Author.Tests.{eq-eqb, ne_eqb, eqb-false, not-true}
use Rattle.words.proofs.Cases.{Tri, less, same, more, tri, both_true, fails}
use Rattle.diagram.specs.Count.{indicator, count_below}
use Rattle.diagram.proofs.CountLaws.{count_cong, count_all, count_none}

-- a test without one number
without : (ℕ → Bool) → ℕ → ℕ → Bool
without R k x = R x && not (eqb x k)

without_other : (R : ℕ → Bool) (k x : ℕ) → (x ≡ k → ⊥) → without R k x ≡ R x
unfolding without
without_other R k x n = rw (ne_eqb x k n) (go (R x))
  where
    go : (b : Bool) → (b && true) ≡ b
    go true = refl
    go false = refl

without_here : (R : ℕ → Bool) (k : ℕ) → without R k k ≡ false
unfolding without
without_here R k = rw (eq-eqb k k refl) (go (R k))
  where
    go : (b : Bool) → (b && false) ≡ false
    go true = refl
    go false = refl

-- one fewer
count_without : (R : ℕ → Bool) (M k : ℕ) → k < M → R k ≡ true → count_below R M ≡ count_below (without R k) M + 1
unfolding count_below indicator
count_without R zero k l p = absurd (omega arith)
count_without R (suc M) k l p = elim (tri k M) [
  | less q ↦ rw (count_without R M k q p, without_other R k M (λ e. omega arith)) (omega arith)
  | same q ↦ last (sym q)
  | more q ↦ absurd (omega arith)
]
  where
    last : M ≡ k → count_below R M + indicator (R M) ≡ count_below (without R k) M + indicator (without R k M) + 1
    last e =
        rw (count_cong (without R k) R M (λ x i. without_other R k x (λ r. omega arith)), ap R e ∙ p, ap (without R k) e ∙ without_here R k)
        (omega arith)

-- distinct numbers below M that pass
pub record Members (f : ℕ → ℕ) (R : ℕ → Bool) (M c : ℕ) : Type 0 where
  pub small : (i : ℕ) → i < c → f i < M
  pub pass : (i : ℕ) → i < c → R (f i) ≡ true
  pub distinct : (i j : ℕ) → i < c → j < c → f i ≡ f j → i ≡ j

fewer : (f : ℕ → ℕ) (R : ℕ → Bool) (M c : ℕ) → Members f R M (suc c) → Members f (without R (f c)) M c
fewer f R M c m = record {
  small = λ i l. m.small i (omega arith);
  pass = λ i l. without_other R (f c) (f i) (λ e. omega (arith, m.distinct i c (omega arith) (omega arith) e)) ∙ m.pass i (omega arith);
  distinct = λ i j l q. m.distinct i j (omega arith) (omega arith);
}

-- they are at most all that pass
pub members_le : (f : ℕ → ℕ) (R : ℕ → Bool) (M c : ℕ) → Members f R M c → c ≤ count_below R M
members_le f R M zero m = omega arith
members_le f R M (suc c) m =
    omega (arith, count_without R M (f c) (m.small c (omega arith)) (m.pass c (omega arith)), members_le f (without R (f c)) M c (fewer f R M c m))

-- a number below M for each i < c, each another: they are at most M
pub distinct_le : (c M : ℕ) (f : (i : ℕ) → i < c → ℕ) → ((i : ℕ) (l : i < c) → f i l < M) → ((i j : ℕ) (l : i < c) (m : j < c) → f i l ≡ f j m → i ≡ j) → c ≤ M
distinct_le c M f small distinct = omega (arith, members_le (λ i. pick i (tri i c)) (λ _. true) M c members, count_all M)
  where
    pick : (i : ℕ) → Tri i c → ℕ
    pick i (less l) = f i l
    pick i (same e) = 0
    pick i (more l) = 0

    at : (i : ℕ) (t : Tri i c) → i < c → (l : i < c) × (pick i t ≡ f i l)
    at i (less l) m = (l, refl)
    at i (same e) m = absurd (omega arith)
    at i (more l) m = absurd (omega arith)

    members : Members (λ i. pick i (tri i c)) (λ _. true) M c
    members = record {
      small = λ i l. let a = at i (tri i c) l in rw a.1 (small i a.0);
      pass = λ i l. refl;
      distinct = λ i j l m e. let a = at i (tri i c) l in let b = at j (tri j c) m in distinct i j a.0 b.0 (sym a.1 ∙ e ∙ b.1);
    }

-- ... and just as many, if there is no other
pub members_all : (f : ℕ → ℕ) (R : ℕ → Bool) (M c : ℕ) → Members f R M c → ((x : ℕ) → x < M → R x ≡ true → (i : ℕ) × (i < c) × (f i ≡ x)) → c ≡ count_below R M
unfolding without
members_all f R M zero m h = sym (count_none R M (λ x l. fails (R x) (λ e. let i = h x l e in omega (arith, i.1))))
members_all f R M (suc c) m h =
    omega (arith, count_without R M (f c) (m.small c (omega arith)) (m.pass c (omega arith)), members_all f (without R (f c)) M c (fewer f R M c m) others)
  where
    others : (x : ℕ) → x < M → without R (f c) x ≡ true → (i : ℕ) × (i < c) × (f i ≡ x)
    others x l e =
        let p = both_true (R x) (not (eqb x (f c))) e in
        let n = eqb-false x (f c) (not-true (eqb x (f c)) p.1) in
        let i = h x l p.0 in
        elim (tri i.0 c) [
          | less q ↦ (i.0, q, i.2)
          | same q ↦ absurd (n (sym i.2 ∙ ap f q))
          | more q ↦ absurd (omega (arith, i.1))
        ]
