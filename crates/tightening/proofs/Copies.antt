-- An accepted table is the table of what it permits, so it is copied. Assumes nothing.
use Prim.Native.Nat.{ℕ, ◌+◌, ◌*◌, ◌≤◌, ◌<◌}
use mathlib.Core.Path.{◌≡◌, subst, ◌∙◌}
use mathlib.Core.Bool.{Bool}
use mathlib.Core.List.{List, ◌++◌}
use mathlib.Core.Option.{some}
use native.Mathlib.Nat.{le_refl}
use native.Mathlib.Omega.{arith}
use lib.ListN.{length, drop}
use borrow.Author.Tests.{lt-ltb, le-ltb}
use Rattle.words.specs.Words.{Bytes, word_at}
use Rattle.words.proofs.Cases.{less, same, more, tri}
use Rattle.words.proofs.Bytes.{words_inj}
use Rattle.words.proofs.Stores.{Updated}
use Rattle.diagram.specs.Meaning.{permitted}
use Rattle.diagram.specs.Answer.{value, refusal}
use Rattle.diagram.specs.Rules.{Accepts}
use Rattle.diagram.specs.Ordered.{Accepted}
use Rattle.diagram.proofs.Accept.{accepted_accepts}
use Rattle.tables.specs.Table.{node_count}
use Rattle.tables.specs.Writing.{fitted}
use Rattle.tables.proofs.TableFor.{table_own}
use Rattle.tables.proofs.TableLaws.{node_count-is, accepted_table}
use Rattle.tables.proofs.Writes.{writes_refused, writes_bytes}
use Rattle.tightening.specs.Inner.{Tightens, Copied}

-- one word more is copied
pub copied_next : (table out out' : List ℕ) (k word : ℕ) → Copied table out k → word ≡ word_at table k → Updated (word_at out) (word_at out') k word → Copied table out' (k + 1)
copied_next table out out' k word C e U i l = elim (tri i k) [
  | less q ↦ U.other i (λ z. omega arith) ∙ C i q
  | same q ↦ rw q (U.here ∙ e)
  | more q ↦ absurd (omega arith)
]

module _ (t : List ℕ) (n N : ℕ) (bytes : Bytes t) (A : Accepted t n N) where
  abbrev Q : ℕ → Bool
  Q = permitted (word_at t)

  ok : Accepts t n N
  ok = accepted_accepts t n N A

  pub accepted_count : (N' : ℕ) × (N' ≤ N) × (node_count n Q ≡ some N')
  accepted_count = (N, le_refl N, node_count-is n Q t N bytes (table_own n t N ok))

  -- rule 11
  pub copy_refused : (out : List ℕ) → length out < 8 * (N + 1) → Tightens n N Q out (refusal 11 0) out
  unfolding fitted
  copy_refused out l = record { writes = writes_refused n Q out 11 0 (rw (accepted_table n t N bytes ok, A.long, lt-ltb (length out) (8 * (N + 1)) l)); not_more = accepted_count }

  -- or it is written: the front of the out memory has its words
  pub copy_written : (out front out' : List ℕ) → 8 * (N + 1) ≤ length out → Bytes front → length front ≡ 8 * (N + 1) → Copied t front (N + 1) → out' ≡ front ++ drop (8 * (N + 1)) out
      → Tightens n N Q out (value (8 * (N + 1))) out'
  unfolding fitted
  copy_written out front out' l b long C o = record {
    writes = writes_bytes n Q out t (8 * (N + 1)) out' (rw (accepted_table n t N bytes ok, A.long, le-ltb (length out) (8 * (N + 1)) l)) A.long
        (subst (λ (s : List ℕ). out' ≡ s ++ drop (8 * (N + 1)) out) (words_inj front t b bytes (N + 1) long A.long C) o);
    not_more = accepted_count;
  }
