-- What two tables come to, rule by rule, in the terms of the code. Assumes nothing.
use Prim.Native.Nat.{ℕ, ◌*◌, ◌/◌, ◌≤◌, ◌<◌}
use mathlib.Core.Path.{◌≡◌, refl, sym, ap, ◌∙◌}
use mathlib.Core.Bool.{Bool, true, false, cond}
use mathlib.Core.List.{List, ◌++◌}
use mathlib.Core.Option.{Option, none, some}
use native.Mathlib.Omega.{arith}
use lib.Dec.{ltb}
use lib.ListN.{length, drop}
use borrow.Author.Tests.{lt-ltb, le-ltb, eq-eqb, ne_eqb}
use Rattle.words.specs.Words.{word_at, words_over}
use Rattle.words.proofs.Laws.{over_front}
use Rattle.diagram.specs.Format.{Words, settings}
use Rattle.diagram.specs.Meaning.{under}
use Rattle.diagram.specs.Answer.{Answer, value, refusal}
use Rattle.diagram.specs.Ordered.{HasDiagram}
use Rattle.diagram.specs.Reading.{IsHeader}
use Rattle.tables.specs.Table.{table_of}
use Rattle.tables.specs.Writing.{fitted, length_of, out_after}
use Rattle.tables.specs.Inner.{Writes}
use Rattle.pairing.specs.Pairs.{pair_count}
use Rattle.naming.specs.declared.Operation.{Operation}
use Rattle.naming.specs.Combination.{combination}
use Rattle.combining.specs.Operations.{combine_roots, combine_tables, before_pairs, pairs_after}
use Rattle.combining.specs.Inner.{Checks}

module _ (op : Operation) (w v : Words) (n a b pairs : ℕ) (out : List ℕ) where
  abbrev answer : Answer (List ℕ)
  answer = combine_roots op w v n a b pairs (length out)

  -- rule 20
  pub too_many_pairs : pairs < pair_count w v n a b → (refusal 20 0 ≡ length_of answer) × (out ≡ out_after answer out)
  unfolding combine_roots length_of out_after
  too_many_pairs l = rw (lt-ltb pairs (pair_count w v n a b) l) (refl, refl)

  -- the table, where there is one and room for it
  pub pairs_fit : pair_count w v n a b ≤ pairs → (m : Answer ℕ) (out' : List ℕ) → Writes n (combination op (under w a) (under v b)) out m out' → (m ≡ length_of answer) × (out' ≡ out_after answer out)
  unfolding combine_roots
  pairs_fit l m out' T = rw (le-ltb pairs (pair_count w v n a b) l) (T.answers, T.leaves)

-- an answer after rule 19: the pair sheet has been used
roots_used : (op : Operation) (w v : Words) (n a b pairs room : ℕ) → before_pairs (combine_roots op w v n a b pairs room) ≡ false
unfolding combine_roots before_pairs fitted
roots_used op w v n a b pairs room = go (ltb pairs (pair_count w v n a b)) (table_of n (combination op (under w a) (under v b)))
  where
    fits : (c : Bool) (t : List ℕ) → before_pairs {A = List ℕ} (cond c (refusal 11 0) (value t)) ≡ false
    fits true t = refl
    fits false t = refl

    go : (c : Bool) (o : Option (List ℕ)) → before_pairs {A = List ℕ} (cond c (refusal 20 0) (fitted room o)) ≡ false
    go true o = refl
    go false none = refl
    go false (some t) = fits (ltb room (length t)) t

-- two accepted tables, by their headers
module _ (op : Operation) (t u pairs out : List ℕ) (n N a n' N' b : ℕ) (H : IsHeader (word_at t) n N a) (K : IsHeader (word_at u) n' N' b) where
  abbrev w : Words
  w = word_at t

  abbrev v : Words
  v = word_at u

  abbrev all : Answer (List ℕ)
  all = combine_tables op w v (length pairs / 32) (length out)

  -- rule 19
  pub unequal : (n ≡ n' → ⊥) → (refusal 19 0 ≡ length_of all) × (out ≡ out_after all out) × (pairs ≡ pairs_after all pairs)
  unfolding combine_tables length_of out_after pairs_after before_pairs
  unequal d = rw (ne_eqb (settings w) (settings v) (λ e. d (H.settings_is ∙ e ∙ sym K.settings_is))) (refl, refl, refl)

  -- equal: as by the root edges, and the pair sheet is blank
  module _ (equal : n ≡ n') (p : ℕ) (p-is : p ≡ length pairs / 32) where
    all_is : all ≡ combine_roots op w v n a b p (length out)
    unfolding combine_tables
    all_is = rw (eq-eqb (settings w) (settings v) (sym H.settings_is ∙ equal ∙ K.settings_is), ← H.settings_is, ← H.root_is, ← K.root_is, p-is)

    pub equal_tables : (m : Answer ℕ) (out' front : List ℕ)
        → (m ≡ length_of (combine_roots op w v n a b p (length out))) × (out' ≡ out_after (combine_roots op w v n a b p (length out)) out) → length front ≡ 32 * p
        → (pairs' : List ℕ) → pairs' ≡ words_over (λ _. 0) (length pairs / 8) (front ++ drop (32 * p) pairs)
        → (m ≡ length_of all) × (out' ≡ out_after all out) × (pairs' ≡ pairs_after all pairs)
    unfolding pairs_after
    equal_tables m out' front r long pairs' z = rw (all_is, roots_used op w v n a b p (length out)) (r.0, r.1, z ∙ over_front (λ _. 0) (length pairs / 8) (32 * p) front pairs long (omega arith))

-- the diagram of an accepted table, by its header
pub checked_diagram : (t : List ℕ) → Checks t → {n N a : ℕ} → IsHeader (word_at t) n N a → HasDiagram t n (a / 2)
checked_diagram t C {n} {N} {a} H =
    let A = C.2 in
    let e : n ≡ C.0 = H.settings_is ∙ A.has_settings in
    let d : a / 2 ≡ C.1 = ap (λ (r : ℕ). r / 2) H.root_is ∙ A.root_node in
    record { long = omega (arith, A.long, d); few = omega (arith, A.few, d); few_settings = H.few_settings; ordered = rw (e, d) A.proper.reduced.ordered }
