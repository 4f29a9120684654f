-- The promise, by which table is refused. Assumes nothing.
use Prim.Native.Nat.{ℕ, ◌+◌, ◌/◌, ◌≤◌}
use mathlib.Core.Path.{◌≡◌, refl}
use mathlib.Core.List.{List}
use lib.ListN.{length}
use borrow.Author.Tests.{le-leb}
use Rattle.words.specs.Words.{word_at}
use Rattle.diagram.specs.Answer.{Answer, value, refusal}
use Rattle.diagram.proofs.Accept.{check_accepted}
use Rattle.diagram.proofs.Refusals.{check_refuses}
use Rattle.checking.specs.Operations.{checking_for, checking, blank}
use Rattle.tables.specs.Writing.{length_of, out_after}
use Rattle.naming.specs.declared.Operation.{Operation}
use Rattle.combining.specs.Operations.{of_table, combine_tables, combining, if_reached, before_pairs, pairs_after, Promise}
use Rattle.combining.specs.Inner.{Checks}

-- a table that passes is accepted
pub passes_checked : (t s : List ℕ) (v : ℕ × ℕ) → checking t s ≡ value v → Checks t
unfolding checking_for
passes_checked t s v e = (v.0, v.1, (check_accepted t (length s / 8) (λ N. N + 1) v.0 v.1 e).0)

-- a table's refusal is one of 1 to 10
pub refused_low : (t s : List ℕ) (number place : ℕ) → checking t s ≡ refusal number place → number ≤ 10
unfolding checking_for
refused_low t s number place e = (check_refuses t (length s / 8) (λ N. N + 1) number place e).1

-- an answer that names no table, handed on
pub of_none : (a : Answer (List ℕ)) → of_table {B = List ℕ} 0 a (λ bytes. (0, value bytes)) ≡ (0, a)
unfolding of_table
of_none (value a) = refl
of_none (refusal number place) = refl

module _ (op : Operation) (t₁ s₁ t₂ s₂ pairs out : List ℕ) where
  -- the first table is refused: nothing else is touched
  pub first_refused : (number place : ℕ) → checking t₁ s₁ ≡ refusal number place → number ≤ 10 → (s₁' : List ℕ) → s₁' ≡ blank t₁ s₁ → Promise op t₁ s₁ t₂ s₂ pairs out (1, refusal number place) s₁' s₂ pairs out
  unfolding combining of_table if_reached pairs_after before_pairs length_of out_after
  first_refused number place e low s₁' b =
      record { table_is = rw e; answers = rw e; writes = rw e; first_sheet = b; second_sheet = rw e; pair_sheet = rw (e, le-leb number 10 low) }

  module _ (v : ℕ × ℕ) (passed : checking t₁ s₁ ≡ value v) where
    -- the second one is
    pub second_refused : (number place : ℕ) → checking t₂ s₂ ≡ refusal number place → number ≤ 10 → (s₁' s₂' : List ℕ) → s₁' ≡ blank t₁ s₁ → s₂' ≡ blank t₂ s₂
        → Promise op t₁ s₁ t₂ s₂ pairs out (2, refusal number place) s₁' s₂' pairs out
    unfolding combining of_table if_reached pairs_after before_pairs length_of out_after
    second_refused number place e low s₁' s₂' b d =
        record { table_is = rw (passed, e); answers = rw (passed, e); writes = rw (passed, e); first_sheet = b; second_sheet = rw passed d; pair_sheet = rw (passed, e, le-leb number 10 low) }

    -- none is
    pub both_pass : (u : ℕ × ℕ) → checking t₂ s₂ ≡ value u → (s₁' s₂' pairs' out' : List ℕ) → s₁' ≡ blank t₁ s₁ → s₂' ≡ blank t₂ s₂
        → (m : Answer ℕ) → let all = combine_tables op (word_at t₁) (word_at t₂) (length pairs / 32) (length out) in
        (m ≡ length_of all) × (out' ≡ out_after all out) × (pairs' ≡ pairs_after all pairs) → Promise op t₁ s₁ t₂ s₂ pairs out (0, m) s₁' s₂' pairs' out'
    both_pass u e s₁' s₂' pairs' out' b d m r =
        let i : combining op t₁ s₁ t₂ s₂ pairs (length out) ≡ (0, combine_tables op (word_at t₁) (word_at t₂) (length pairs / 32) (length out)) = unfold combining in unfold of_table in
        rw (passed, e) (of_none (combine_tables op (word_at t₁) (word_at t₂) (length pairs / 32) (length out))) in
        record { table_is = rw i; answers = rw i r.0; writes = rw i r.1; first_sheet = b; second_sheet = unfold if_reached in rw passed d; pair_sheet = rw i r.2 }
