-- Writing the table of a set: refused or written, by any other test that agrees, and where 16 is answered. Assumes nothing.
use Prim.Native.Nat.{ℕ, ◌^◌, ◌<◌}
use mathlib.Core.Path.{◌≡◌, refl, sym, ap, ◌∙◌}
use mathlib.Core.Logic.{◌↔◌, ◌⊎◌, inl, inr}
use mathlib.Core.Bool.{Bool, true, false, cond}
use mathlib.Core.List.{List, ◌++◌}
use mathlib.Core.Option.{Option, none, some}
use native.Mathlib.Omega.{arith}
use lib.Dec.{ltb}
use lib.ListN.{length, drop}
use Rattle.words.specs.Words.{Bytes}
use Rattle.words.proofs.Cases.{passed}
use Rattle.diagram.specs.Answer.{Answer, value, refusal}
use Rattle.diagram.proofs.AnswerLaws.{refused_not, value_inj}
use Rattle.tables.specs.Table.{is_table, node_count, table_of}
use Rattle.tables.specs.Writing.{fitted, length_of, out_after}
use Rattle.tables.proofs.TableFor.{is_table_for, table_for_is}
use Rattle.tables.proofs.TableLaws.{node_count-is, node_count-some, table_of-is, table_of-some}
use Rattle.tables.specs.Inner.{Writes}

module _ (n : ℕ) (P : ℕ → Bool) (out : List ℕ) where
  -- refused: the out memory stays
  pub writes_refused : (number place : ℕ) → fitted (length out) (table_of n P) ≡ refusal number place → Writes n P out (refusal number place) out
  unfolding length_of out_after
  writes_refused number place e = record { answers = rw e; leaves = rw e }

  -- written: the bytes, then what stood there
  pub writes_bytes : (bytes : List ℕ) (m : ℕ) (out' : List ℕ) → fitted (length out) (table_of n P) ≡ value bytes → length bytes ≡ m → out' ≡ bytes ++ drop m out → Writes n P out (value m) out'
  unfolding length_of out_after
  writes_bytes bytes m out' e l o = record { answers = rw (e, l); leaves = rw (e, l) o }

-- sets that agree have one table
same_table : (n : ℕ) (P Q : ℕ → Bool) → ((x : ℕ) → x < 2 ^ n → P x ≡ Q x) → table_of n P ≡ table_of n Q
same_table n P Q same = go (table_of n P) refl (table_of n Q) refl
  where
    table : (P Q : ℕ → Bool) → ((x : ℕ) → x < 2 ^ n → P x ≡ Q x) → (t : List ℕ) → table_of n P ≡ some t → table_of n Q ≡ some t
    table P Q same t e =
        let s = table_of-some n P t e in
        table_of-is n Q t s.0 s.1 (record { accepts = s.2.accepts; permits = λ x l. s.2.permits x l ∙ same x l })

    go : (o : Option (List ℕ)) → table_of n P ≡ o → (q : Option (List ℕ)) → table_of n Q ≡ q → table_of n P ≡ table_of n Q
    go (some t) e q f = e ∙ sym (table P Q same t e)
    go none e none f = e ∙ sym f
    go none e (some t) f = table Q P (λ x l. sym (same x l)) t f ∙ sym f

-- so they are written alike
pub writes_same : (n : ℕ) (P Q : ℕ → Bool) → ((x : ℕ) → x < 2 ^ n → P x ≡ Q x) → {out out' : List ℕ} {answer : Answer ℕ} → Writes n P out answer out' → Writes n Q out answer out'
writes_same n P Q same w = let e = same_table n P Q same in record { answers = rw (← e) w.answers; leaves = rw (← e) w.leaves }

-- and their table has the same node count
pub same_count : (n : ℕ) (P Q : ℕ → Bool) → ((x : ℕ) → x < 2 ^ n → P x ≡ Q x) → (N : ℕ) → node_count n P ≡ some N → node_count n Q ≡ some N
same_count n P Q same N e =
    let t = node_count-some n P N e in
    node_count-is n Q t.0 N t.1 (record { accepts = t.2.accepts; permits = λ x l. t.2.permits x l ∙ same x l })

-- what is fitted into the room is what there was
pub fitted_some : (room : ℕ) (o : Option (List ℕ)) (bytes : List ℕ) → fitted room o ≡ value bytes → o ≡ some bytes
unfolding fitted
fitted_some room none bytes e = absurd (refused_not e)
fitted_some room (some b) bytes e = ap some (value_inj (passed (ltb room (length b)) refused_not e).1)

-- a table that there is is refused by 11 alone
pub only_eleven : {A : Type 0} (c : Bool) (a : A) {number place : ℕ} → cond c (refusal 11 0) (value a) ≡ refusal number place → number ≡ 11
only_eleven true a e = cc
only_eleven false a e = absurd (refused_not (sym e))

-- no other refusals are answered than 16 and 11
pub fitted_refusal : (room : ℕ) (o : Option (List ℕ)) (number place : ℕ) → fitted room o ≡ refusal number place → (number ≡ 16) ⊎ (number ≡ 11)
unfolding fitted
fitted_refusal room none number place e = inl cc
fitted_refusal room (some bytes) number place e = inr (only_eleven (ltb room (length bytes)) bytes e)

-- 16 is answered exactly where no bytes are an accepted table that permits the set
pub sixteen : (room n : ℕ) (P : ℕ → Bool) → (fitted room (table_of n P) ≡ refusal 16 0) ↔ ((t : List ℕ) → Bytes t → is_table n P t ≡ true → ⊥)
unfolding fitted
sixteen room n P = (found, then_none (table_of n P) refl)
  where
    found : fitted room (table_of n P) ≡ refusal 16 0 → (t : List ℕ) → Bytes t → is_table n P t ≡ true → ⊥
    found e t b i =
        let T = is_table_for n P t i in
        omega (arith, only_eleven (ltb room (length t)) t (sym (ap (fitted room) (table_of-is n P t T.0 b T.1)) ∙ e))

    then_none : (o : Option (List ℕ)) → table_of n P ≡ o → ((t : List ℕ) → Bytes t → is_table n P t ≡ true → ⊥) → fitted room (table_of n P) ≡ refusal 16 0
    then_none none e f = rw e
    then_none (some t) e f = let s = table_of-some n P t e in absurd (f t s.1 (table_for_is n P t s.0 s.2))
