-- What rows stand for: the sink, flags, and a setting of which half of the setups are on. Assumes nothing.
use Rattle.std.proofs.Common.{◌≡◌, ℕ, zero, suc, ◌+◌, ◌/◌, ◌%◌, ◌^◌, ◌<◌, ◌≤◌, Bool, true, not, sym, refl, ap, ◌∙◌, subst, ap₂, le_refl, arith}
use mathlib.Core.Bool.{not-not}
use Rattle.words.proofs.Cases.{less, same, more, tri}
use Rattle.diagram.specs.Meaning.{flip}
use Rattle.pascal.specs.Triangle.{binomial}
use Rattle.pascal.specs.Ones.{count_on}
use Rattle.pascal.proofs.Pascal.{binomial_fits}
use Rattle.pascal.proofs.Weights.{on_cong, on_zero, on_suc, on_all, on_both}
use Rattle.rows.specs.Inner.{expand, opposed, turned, Stands}
use Rattle.rows.proofs.Modular.{Same, add_same, cancel_same, half_same, sign_same}
use Rattle.rows.proofs.Expanding.{expand_cong, expand_zeros, expand_sum, expand_more}

-- only the entries up to m matter
pub stands_cong : (P : ℕ → Bool) (a b : ℕ → ℕ) (m h : ℕ) → ((i : ℕ) → i ≤ m → b i ≡ a i) → Stands P a m h → Stands P b m h
stands_cong P a b m h e S = record {
  ends = λ i l q. e i q ∙ S.ends i l q;
  balance = λ j l. rw (expand_cong b a h j (λ i q. e i (omega arith))) (S.balance j l);
}

-- row r is made of row a, where a setting is on, and row z, where it is off: r = y × a + (1 - y) × z as polynomials in y
pub record Mixed (r a z : ℕ → ℕ) (m : ℕ) : Type 0 where
  pub small : (i : ℕ) → r i < 18446744073709551616
  pub first : Same (r 0) (z 0)
  pub next : (i : ℕ) → i < m → Same (r (suc i) + z i) (a i + z (suc i))

-- y × a
shifted : (ℕ → ℕ) → ℕ → ℕ
shifted a zero = 0
shifted a (suc i) = a i

module _ (P P₀ P₁ : ℕ → Bool) (h : ℕ) (off : (x : ℕ) → x < 2 ^ h → P x ≡ P₀ x) (on : (x : ℕ) → x < 2 ^ h → P (2 ^ h + x) ≡ P₁ x) where
  none_on : count_on P (suc h) 0 ≡ count_on P₀ h 0
  none_on = on_zero P h ∙ on_cong P P₀ h 0 off

  some_on : (j : ℕ) → count_on P (suc h) (suc j) ≡ count_on P₀ h (suc j) + count_on P₁ h j
  some_on j = on_suc P h j ∙ ap₂ ◌+◌ (on_cong P P₀ h (suc j) off) (on_cong (λ x. P (2 ^ h + x)) P₁ h j on)

-- the setting above h others: on, P₁ passes, and off, P₀
module _ (P P₀ P₁ : ℕ → Bool) (h : ℕ) (off : (x : ℕ) → x < 2 ^ h → P x ≡ P₀ x) (on : (x : ℕ) → x < 2 ^ h → P (2 ^ h + x) ≡ P₁ x)
    (r a z : ℕ → ℕ) (m : ℕ) (M : Mixed r a z m) (A : Stands P₁ a m h) (Z : Stands P₀ z m h) where
  mixed_ends : (i : ℕ) → suc h < i → i ≤ m → r i ≡ 0
  mixed_ends zero l q = absurd (omega arith)
  mixed_ends (suc i) l q = omega (arith, M.small (suc i), M.next i (omega arith), A.ends i (omega arith) (omega arith), Z.ends i (omega arith) (omega arith), Z.ends (suc i) (omega arith) q)

  -- r + y × z = y × a + z, entry by entry
  entries : (j i : ℕ) → j ≤ m → i ≤ j → Same (r i + shifted z i) (shifted a i + z i)
  unfolding shifted
  entries j zero l q = omega (arith, M.first)
  entries j (suc i) l q = M.next i (omega arith)

  expanded : (j : ℕ) → suc j ≤ m → Same (expand r (suc h) (suc j)) (expand a h j + expand z h (suc j))
  unfolding expand shifted
  expanded j l =
      let x : expand r (suc h) (suc j) + expand z h j ≡ expand r (suc h) (suc j) + expand (shifted z) (suc h) (suc j) = omega arith in
      let y : expand (shifted a) (suc h) (suc j) + expand z (suc h) (suc j) ≡ expand a h j + expand z h (suc j) + expand z h j = omega (arith, expand_more z h j (λ i p q. Z.ends i p (omega arith))) in
      cancel_same _ _ (expand z h j)
      (ap (◌% 18446744073709551616) x ∙ expand_sum r (shifted z) (shifted a) z (suc h) (suc j) (λ i q. entries (suc j) i l q) ∙ ap (◌% 18446744073709551616) y)

  balanced : (j : ℕ) → j ≤ m → Same (expand r (suc h) j + count_on (λ x. not (P x)) (suc h) j) (count_on P (suc h) j)
  unfolding expand
  balanced zero l =
      rw (none_on P P₀ P₁ h off on, none_on (λ x. not (P x)) (λ x. not (P₀ x)) (λ x. not (P₁ x)) h (λ x q. ap not (off x q)) (λ x q. ap not (on x q)))
      (add_same _ _ _ _ M.first refl ∙ Z.balance 0 l)
  balanced (suc j) l =
      let n₀ = count_on (λ x. not (P₀ x)) h (suc j) in
      let n₁ = count_on (λ x. not (P₁ x)) h j in
      let x : expand a h j + expand z h (suc j) + (n₀ + n₁) ≡ expand z h (suc j) + n₀ + (expand a h j + n₁) = omega arith in
      rw (some_on P P₀ P₁ h off on j, some_on (λ x. not (P x)) (λ x. not (P₀ x)) (λ x. not (P₁ x)) h (λ x q. ap not (off x q)) (λ x q. ap not (on x q)) j)
      (add_same _ _ _ _ (expanded j l) refl ∙ ap (◌% 18446744073709551616) x ∙ add_same _ _ _ _ (Z.balance (suc j) l) (A.balance j (omega arith)))

  pub halves : Stands P r m (suc h)
  halves = record { ends = mixed_ends; balance = balanced }

-- a free setting more: the row stays
pub free : (P : ℕ → Bool) (h : ℕ) → ((x : ℕ) → P (2 ^ h + x) ≡ P x) → (a : ℕ → ℕ) (m : ℕ) → ((i : ℕ) → a i < 18446744073709551616) → Stands P a m h → Stands P a m (suc h)
free P h period a m small S = halves P P P h (λ x _. refl) (λ x _. period x) a a a m (record { small = small; first = refl; next = λ i _. omega arith }) S S

-- ... as many as there are
pub free_to : (P : ℕ → Bool) (h H : ℕ) → h ≤ H → ((g x : ℕ) → h ≤ g → P (2 ^ g + x) ≡ P x) → (a : ℕ → ℕ) (m : ℕ) → ((i : ℕ) → a i < 18446744073709551616) → Stands P a m h → Stands P a m H
free_to P h zero l period a m small S = let e : h ≡ 0 = omega arith in subst (Stands P a m) e S
free_to P h (suc H) l period a m small S = elim (tri h (suc H)) [
  | less q ↦ free P H (λ x. period H x (omega arith)) a m small (free_to P h H (omega arith) period a m small S)
  | same q ↦ subst (Stands P a m) q S
  | more q ↦ absurd (omega arith)
]

-- the sink's row
pub sink : (a : ℕ → ℕ) (m : ℕ) → a 0 ≡ 1 → ((i : ℕ) → i < m → a (suc i) ≡ 0) → (P : ℕ → Bool) → ((x : ℕ) → P x ≡ true) → Stands P a m 0
unfolding expand binomial
sink a m one zeros P all = record { ends = ends; balance = λ j l. omega (arith, row j l, counted j, on_both P 0 j) }
  where
    ends : (i : ℕ) → 0 < i → i ≤ m → a i ≡ 0
    ends zero p l = absurd (omega arith)
    ends (suc i) p l = zeros i l

    row : (j : ℕ) → j ≤ m → expand a 0 j ≡ binomial 0 j
    row zero l = one
    row (suc j) l = zeros j l

    counted : (j : ℕ) → count_on P 0 j ≡ binomial 0 j
    counted j = on_cong P (λ _. true) 0 j (λ x _. all x) ∙ on_all 0 j

-- a row and the same with its signs turned come to nothing
pub opposed_sum : (a : ℕ → ℕ) → ((i : ℕ) → a i < 18446744073709551616) → (h j : ℕ) → Same (expand (opposed a) h j + expand a h j) 0
unfolding opposed
opposed_sum a small h j =
    expand_sum (opposed a) a (λ _. 0) (λ _. 0) h j (λ i _. sign_same (a i) (small i))
    ∙ ap (λ (x : ℕ). (x + x) % 18446744073709551616) (expand_zeros h j)

-- a flag turns every sign
module _ (P : ℕ → Bool) (a : ℕ → ℕ) (m h : ℕ) (small : (i : ℕ) → a i < 18446744073709551616) (S : Stands P a m h) where
  opposed_ends : (i : ℕ) → h < i → i ≤ m → opposed a i ≡ 0
  unfolding opposed
  opposed_ends i p l = rw (S.ends i p l)

  opposed_balance : (j : ℕ) → j ≤ m → Same (expand (opposed a) h j + count_on (λ x. not (not (P x))) h j) (count_on (λ x. not (P x)) h j)
  opposed_balance j l =
      let e = expand (opposed a) h j in
      let c = count_on P h j in
      let n = count_on (λ x. not (P x)) h j in
      let regroup : e + (expand a h j + n) ≡ e + expand a h j + n = omega arith in
      rw (on_cong (λ x. not (not (P x))) P h j (λ x _. not-not (P x)))
      (add_same e c e (expand a h j + n) refl (sym (S.balance j l)) ∙ ap (◌% 18446744073709551616) regroup ∙ add_same (e + expand a h j) n 0 n (opposed_sum a small h j) refl ∙ omega arith)

  pub flagged : (f : ℕ) → Stands (λ x. flip f (P x)) (turned f a) m h
  unfolding flip turned
  flagged zero = S
  flagged (suc f) = record { ends = opposed_ends; balance = opposed_balance }

-- what a row comes to: all setups with m on, and those that pass less those that do not, are twice those that pass
pub row_counts : (P : ℕ → Bool) (a : ℕ → ℕ) (m h : ℕ) → h ≤ 63 → Stands P a m h → (d : ℕ) → d < 18446744073709551616 → Same d (binomial h m + expand a h m) → d / 2 ≡ count_on P h m
row_counts P a m h few S d fits d-is =
    let e = expand a h m in
    let c = count_on P h m in
    let n = count_on (λ x. not (P x)) h m in
    let parts : binomial h m + e ≡ e + n + c = omega (arith, on_both P h m) in
    half_same d c fits (omega (arith, on_both P h m, binomial_fits h m few)) (d-is ∙ ap (◌% 18446744073709551616) parts ∙ add_same (e + n) c c c (S.balance m (le_refl m)) refl)
