-- The tables of a set of setups: what they are, and that there is one only, to the byte. Assumes nothing.
use Prim.Native.Nat.{ℕ, zero, suc, ◌+◌, ◌*◌, ◌^◌, ◌<◌}
use mathlib.Core.Path.{◌≡◌, refl, sym, ap, ◌∙◌}
use mathlib.Core.Bool.{Bool, true, false, not, xor, true≢false, and-eq-true_iff}
use mathlib.Core.List.{List}
use native.Mathlib.Omega.{arith}
use lib.ListN.{length}
use borrow.Author.Tests.{eqb-true, eq-eqb, not-true}
use Rattle.words.specs.Words.{Bytes, word_at}
use Rattle.words.proofs.Cases.{less, same, more, tri, or_false, join_false}
use Rattle.diagram.specs.Meaning.{permitted}
use Rattle.diagram.specs.Count.{some_below}
use Rattle.diagram.specs.Answer.{Answer, value, refusal}
use Rattle.diagram.specs.Rules.{check, Accepts}
use Rattle.diagram.proofs.Accept.{accepts_accepted}
use Rattle.tables.specs.Table.{accepted_with, is_table}
use Rattle.tables.proofs.EqualFiles.{equal_files}

-- an accepted table of n settings and N nodes that permits exactly the setups that pass P
pub record TableFor (n : ℕ) (P : ℕ → Bool) (bytes : List ℕ) (N : ℕ) : Type 0 where
  pub accepts : Accepts bytes n N
  pub permits : (x : ℕ) → x < 2 ^ n → permitted (word_at bytes) x ≡ P x

-- two tests that do not differ agree
same_bits : (a b : Bool) → xor a b ≡ false → a ≡ b
unfolding xor
same_bits true true e = refl
same_bits true false e = absurd (true≢false e)
same_bits false true e = absurd (true≢false e)
same_bits false false e = refl

-- ... and one does not differ from itself
no_difference : (a : Bool) → xor a a ≡ false
unfolding xor
no_difference true = refl
no_difference false = refl

-- a search that fails, both ways
none_at : (P : ℕ → Bool) (m : ℕ) → some_below P m ≡ false → (x : ℕ) → x < m → P x ≡ false
unfolding some_below
none_at P zero e x l = absurd (omega arith)
none_at P (suc m) e x l =
    let a = or_false (some_below P m) (P m) e in
    elim (tri x m) [ less i ↦ none_at P m a.0 x i | same i ↦ rw i a.1 | more i ↦ absurd (omega arith) ]

at_none : (P : ℕ → Bool) (m : ℕ) → ((x : ℕ) → x < m → P x ≡ false) → some_below P m ≡ false
unfolding some_below
at_none P zero h = refl
at_none P (suc m) h = join_false (at_none P m (λ x l. h x (omega arith))) (h m (omega arith))

-- where bytes and test differ
abbrev differs : (ℕ → Bool) → List ℕ → ℕ → Bool
differs P bytes x = xor (permitted (word_at bytes) x) (P x)

-- the definition's test, both ways
pub is_table_for : (n : ℕ) (P : ℕ → Bool) (bytes : List ℕ) → is_table n P bytes ≡ true → (N : ℕ) × TableFor n P bytes N
unfolding is_table accepted_with
is_table_for n P bytes e =
    let a = (and-eq-true_iff (accepted_with n (check bytes 0 (λ _. 0))) (not (some_below (differs P bytes) (2 ^ n)))).0 e in
    let b = go (check bytes 0 (λ _. 0)) refl a.0 in
    let c = not-true (some_below (differs P bytes) (2 ^ n)) a.1 in
    (b.0, record { accepts = b.1; permits = λ x l. same_bits (permitted (word_at bytes) x) (P x) (none_at (differs P bytes) (2 ^ n) c x l) })
  where
    go : (a : Answer (ℕ × ℕ)) → check bytes 0 (λ _. 0) ≡ a → accepted_with n a ≡ true → (N : ℕ) × Accepts bytes n N
    go (value v) p q = (v.1, p ∙ ap (λ m. value (m, v.1)) (eqb-true v.0 n q))
    go (refusal r k) p q = absurd (true≢false (sym q))

pub table_for_is : (n : ℕ) (P : ℕ → Bool) (bytes : List ℕ) (N : ℕ) → TableFor n P bytes N → is_table n P bytes ≡ true
unfolding is_table accepted_with
table_for_is n P bytes N t =
    rw (t.accepts, eq-eqb n n refl, at_none (differs P bytes) (2 ^ n) (λ x l. rw (t.permits x l) (no_difference (P x))))

-- its length
pub table_long : (n : ℕ) (P : ℕ → Bool) (bytes : List ℕ) (N : ℕ) → TableFor n P bytes N → length bytes ≡ 8 * (N + 1)
table_long n P bytes N t = (accepts_accepted bytes n N t.accepts).long

-- an accepted table is for what it permits
pub table_own : (n : ℕ) (bytes : List ℕ) (N : ℕ) → Accepts bytes n N → TableFor n (permitted (word_at bytes)) bytes N
table_own n bytes N a = record { accepts = a; permits = λ x l. refl }

-- two tables of one set are the same, to the byte
pub table_unique : (n : ℕ) (P : ℕ → Bool) (s t : List ℕ) (M N : ℕ) → Bytes s → Bytes t → TableFor n P s M → TableFor n P t N → (M ≡ N) × (s ≡ t)
table_unique n P s t M N p q a b =
    let e = (equal_files n M N s t p q a.accepts b.accepts).0 (λ x l. a.permits x l ∙ sym (b.permits x l)) in
    (omega (arith, table_long n P s M a, table_long n P t N b, ap length e), e)
