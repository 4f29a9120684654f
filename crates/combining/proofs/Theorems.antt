-- What the request asks of two tables made into one. Assumes nothing.
use Prim.Native.Nat.{ℕ, ◌+◌, ◌*◌, ◌/◌, ◌^◌, ◌≤◌, ◌<◌}
use mathlib.Core.Path.{◌≡◌, refl, sym, ap, ◌∙◌}
use mathlib.Core.Logic.{◌↔◌, ⊎_elim}
use mathlib.Core.Bool.{Bool, true, false, cond, not, ◌&&◌, ◌||◌}
use mathlib.Core.List.{List}
use mathlib.Core.Option.{some}
use native.Mathlib.Omega.{arith}
use lib.Dec.{eqb, ltb}
use lib.ListN.{length, drop}
use borrow.Author.Tests.{eq-eqb, eqb-true, ltb-true, lt-ltb, le-ltb, not-false}
use Rattle.words.specs.Words.{Bytes, word_at, words_over}
use Rattle.words.proofs.Cases.{passed}
use Rattle.words.proofs.Laws.{words_read}
use Rattle.diagram.specs.Format.{settings, nodes, root}
use Rattle.diagram.specs.Meaning.{permitted}
use Rattle.diagram.specs.Answer.{Answer, value, refusal}
use Rattle.diagram.specs.Rules.{Accepts}
use Rattle.diagram.specs.Reading.{IsHeader}
use Rattle.diagram.proofs.AnswerLaws.{refused_not, value_inj}
use Rattle.checking.specs.Operations.{checking, blank}
use Rattle.checking.specs.Sheets.{HandedBack}
use Rattle.checking.proofs.Lending.{filled_past}
use Rattle.checking.proofs.Blank.{checking_back}
use Rattle.tables.specs.Table.{is_table, table_of}
use Rattle.tables.specs.Writing.{fitted, front_of, HandsOut}
use Rattle.tables.proofs.TableFor.{TableFor}
use Rattle.tables.proofs.TableLaws.{table_of-some}
use Rattle.tables.proofs.Writes.{fitted_some, fitted_refusal, sixteen}
use Rattle.tables.proofs.HandingOut.{front_is, handed_out}
use Rattle.pairing.specs.Pairs.{pair_count}
use Rattle.pairing.proofs.Exploring.{none_held}
use Rattle.naming.specs.declared.Operation.{Operation}
use Rattle.naming.specs.declared.Operation.TheVariants.{Joined, Shared, Without}
use Rattle.naming.specs.Combination.{names, combination}
use Rattle.combining.specs.Operations.{Reply, of_table, combine_roots, combine_tables, combining, if_reached, before_pairs, pairs_after, Promise}
use Rattle.combining.proofs.Outcomes.{checked_diagram}
use Rattle.combining.proofs.Promised.{passes_checked, of_none}

-- what yields a value went through its table's check
of_value : {A B : Type 0} (k : ℕ) (a : Answer A) (f : A → Reply B) (b : B) → (of_table k a f).1 ≡ value b → (v : A) × (a ≡ value v) × ((f v).1 ≡ value b)
unfolding of_table
of_value k (value v) f b e = (v, refl, e)
of_value k (refusal number place) f b e = absurd (refused_not e)

-- a result: both tables pass, have one n, and their pairs have room; the bytes are the table of what is named
pub record Result (op : Operation) (table1 sheet1 table2 sheet2 pairs bytes : List ℕ) : Type 0 where
  pub first : ℕ × ℕ
  pub first_passes : checking table1 sheet1 ≡ value first
  pub second : ℕ × ℕ
  pub second_passes : checking table2 sheet2 ≡ value second
  pub one_n : settings (word_at table1) ≡ settings (word_at table2)
  pub table : table_of (settings (word_at table1)) (combination op (permitted (word_at table1)) (permitted (word_at table2))) ≡ some bytes

module _ (op : Operation) (t₁ s₁ t₂ s₂ pairs : List ℕ) (room : ℕ) where
  pub result : (bytes : List ℕ) → (combining op t₁ s₁ t₂ s₂ pairs room).1 ≡ value bytes → Result op t₁ s₁ t₂ s₂ pairs bytes
  unfolding combining combine_tables combine_roots permitted
  result bytes e =
      let a = of_value 1 (checking t₁ s₁) _ bytes e in
      let b = of_value 2 (checking t₂ s₂) _ bytes a.2 in
      let c = of_value 0 (combine_tables op (word_at t₁) (word_at t₂) (length pairs / 32) room) _ bytes b.2 in
      let p = passed (not (eqb (settings (word_at t₁)) (settings (word_at t₂)))) refused_not c.1 in
      let q = passed (ltb (length pairs / 32) (pair_count (word_at t₁) (word_at t₂) (settings (word_at t₁)) (root (word_at t₁)) (root (word_at t₂)))) refused_not p.1 in
      let f = fitted_some room (table_of (settings (word_at t₁)) (combination op (permitted (word_at t₁)) (permitted (word_at t₂)))) c.0 q.1 in
      record {
        first = a.0;
        first_passes = a.1;
        second = b.0;
        second_passes = b.1;
        one_n = eqb-true (settings (word_at t₁)) (settings (word_at t₂)) (not-false (eqb (settings (word_at t₁)) (settings (word_at t₂))) p.0);
        table = f ∙ ap some (value_inj c.2);
      }

  -- the result is accepted, with the given n, and permits exactly the setups that the operation names
  module _ (bytes : List ℕ) (e : (combining op t₁ s₁ t₂ s₂ pairs room).1 ≡ value bytes) where
    abbrev n : ℕ
    n = settings (word_at t₁)

    for : (N : ℕ) × Bytes bytes × TableFor n (combination op (permitted (word_at t₁)) (permitted (word_at t₂))) bytes N
    for = table_of-some n (combination op (permitted (word_at t₁)) (permitted (word_at t₂))) bytes (result bytes e).table

    pub result_accepted : (N : ℕ) × Accepts bytes n N
    result_accepted = (for.0, for.2.accepts)

    pub result_permits : (x : ℕ) → x < 2 ^ n → permitted (word_at bytes) x ≡ names op (permitted (word_at t₁) x) (permitted (word_at t₂) x)
    unfolding combination
    result_permits x l = for.2.permits x l

-- of each operation
module _ (t₁ s₁ t₂ s₂ pairs : List ℕ) (room : ℕ) (bytes : List ℕ) (x : ℕ) (l : x < 2 ^ settings (word_at t₁)) where
  pub joined_permits : (combining Joined t₁ s₁ t₂ s₂ pairs room).1 ≡ value bytes → permitted (word_at bytes) x ≡ (permitted (word_at t₁) x || permitted (word_at t₂) x)
  joined_permits e = result_permits Joined t₁ s₁ t₂ s₂ pairs room bytes e x l

  pub shared_permits : (combining Shared t₁ s₁ t₂ s₂ pairs room).1 ≡ value bytes → permitted (word_at bytes) x ≡ (permitted (word_at t₁) x && permitted (word_at t₂) x)
  shared_permits e = result_permits Shared t₁ s₁ t₂ s₂ pairs room bytes e x l

  pub without_permits : (combining Without t₁ s₁ t₂ s₂ pairs room).1 ≡ value bytes → permitted (word_at bytes) x ≡ (permitted (word_at t₁) x && not (permitted (word_at t₂) x))
  without_permits e = result_permits Without t₁ s₁ t₂ s₂ pairs room bytes e x l

-- two tables that pass and have one n
module _ (op : Operation) (t₁ s₁ t₂ s₂ pairs : List ℕ) (room : ℕ) (v u : ℕ × ℕ) (first : checking t₁ s₁ ≡ value v) (second : checking t₂ s₂ ≡ value u)
    (one_n : settings (word_at t₁) ≡ settings (word_at t₂)) where
  abbrev same : ℕ
  same = settings (word_at t₁)

  abbrev number : ℕ
  number = pair_count (word_at t₁) (word_at t₂) same (root (word_at t₁)) (root (word_at t₂))

  -- the answer, by the pairs that have room
  answer_is : (combining op t₁ s₁ t₂ s₂ pairs room).1 ≡ cond (ltb (length pairs / 32) number) (refusal 20 0) (fitted room (table_of same (combination op (permitted (word_at t₁)) (permitted (word_at t₂)))))
  unfolding combining of_table combine_tables combine_roots permitted
  answer_is = rw (first, second, eq-eqb (settings (word_at t₁)) (settings (word_at t₂)) one_n) (ap (λ (r : Reply (List ℕ)). r.1) (of_none _))

  too_many : length pairs / 32 < number → (combining op t₁ s₁ t₂ s₂ pairs room).1 ≡ refusal 20 0
  too_many l = answer_is ∙ rw (lt-ltb (length pairs / 32) number l)

  -- 20 exactly where there are more pairs than have room
  pub twenty_exactly : ((combining op t₁ s₁ t₂ s₂ pairs room).1 ≡ refusal 20 0) ↔ (length pairs / 32 < number)
  twenty_exactly = (λ e. go (ltb (length pairs / 32) number) refl (sym answer_is ∙ e), too_many)
    where
      go : (c : Bool) → ltb (length pairs / 32) number ≡ c → cond c (refusal 20 0) (fitted room (table_of same (combination op (permitted (word_at t₁)) (permitted (word_at t₂))))) ≡ refusal 20 0
          → length pairs / 32 < number
      go true b q = ltb-true (length pairs / 32) number b
      go false b q = ⊎_elim (λ z. absurd (omega arith)) (λ z. absurd (omega arith)) (fitted_refusal room _ 20 0 q)

  -- under 32 bytes always (n is at most 63 in any bytes)
  pub no_room : same ≤ 63 → length pairs < 32 → (combining op t₁ s₁ t₂ s₂ pairs room).1 ≡ refusal 20 0
  no_room low l =
      let header : (t : List ℕ) → settings (word_at t) ≤ 63 → IsHeader (word_at t) (settings (word_at t)) (nodes (word_at t)) (root (word_at t)) = λ t k. record { settings_is = refl; nodes_is = refl; root_is = refl; few_settings = k } in
      let D = checked_diagram t₁ (passes_checked t₁ s₁ v first) (header t₁ low) in
      let E = checked_diagram t₂ (passes_checked t₂ s₂ u second) (header t₂ (omega (arith, one_n))) in
      too_many (omega (arith, none_held t₁ t₂ same (root (word_at t₁)) (root (word_at t₂)) D (rw one_n E)))

  -- with room, 16 exactly where no accepted table, of up to 65,535 records, permits what is named
  pub sixteen_exactly : number ≤ length pairs / 32
      → ((combining op t₁ s₁ t₂ s₂ pairs room).1 ≡ refusal 16 0) ↔ ((t : List ℕ) → Bytes t → is_table same (combination op (permitted (word_at t₁)) (permitted (word_at t₂))) t ≡ true → ⊥)
  sixteen_exactly l =
      let e : (combining op t₁ s₁ t₂ s₂ pairs room).1 ≡ fitted room (table_of same (combination op (permitted (word_at t₁)) (permitted (word_at t₂)))) = answer_is ∙ rw (le-ltb (length pairs / 32) number l) in
      rw e (sixteen room same (combination op (permitted (word_at t₁)) (permitted (word_at t₂))))

-- the sheets of the promise, in the words of requests 3 and 7: the first as its check hands it back, whatever becomes of the second table; the second untouched if the first table is refused, or else so too
module _ (op : Operation) (t₁ s₁ t₂ s₂ pairs out : List ℕ) (reply : Reply ℕ) (s₁' s₂' pairs' out' : List ℕ) (Q : Promise op t₁ s₁ t₂ s₂ pairs out reply s₁' s₂' pairs' out') where
  pub first_back : HandedBack (nodes (word_at t₁) + 1) (checking t₁ s₁) s₁ s₁'
  first_back = rw Q.first_sheet (checking_back t₁ s₁)

  pub second_untouched : (number place : ℕ) → checking t₁ s₁ ≡ refusal number place → s₂' ≡ s₂
  unfolding if_reached
  second_untouched number place e = Q.second_sheet ∙ rw e

  pub second_back : (v : ℕ × ℕ) → checking t₁ s₁ ≡ value v → HandedBack (nodes (word_at t₂) + 1) (checking t₂ s₂) s₂ s₂'
  unfolding if_reached
  second_back v e = let z : s₂' ≡ blank t₂ s₂ = Q.second_sheet ∙ rw e in rw z (checking_back t₂ s₂)

  abbrev answer : Answer (List ℕ)
  answer = (combining op t₁ s₁ t₂ s₂ pairs (length out)).1

  -- the pair sheet: untouched by 1 to 10 and 19; or else every place is zero, those of an incomplete four too; the spare bytes are as before
  pub pairs_untouched : before_pairs answer ≡ true → pairs' ≡ pairs
  unfolding pairs_after
  pairs_untouched b = Q.pair_sheet ∙ rw b

  pub pairs_zero : before_pairs answer ≡ false → (k : ℕ) → k < length pairs / 8 → word_at pairs' k ≡ 0
  unfolding pairs_after
  pairs_zero b k l = let z : pairs' ≡ words_over (λ _. 0) (length pairs / 8) pairs = Q.pair_sheet ∙ rw b in rw z (words_read (λ _. 0) (length pairs / 8) pairs k l (omega arith))

  pub pairs_spare : drop (8 * (length pairs / 8)) pairs' ≡ drop (8 * (length pairs / 8)) pairs
  unfolding pairs_after
  pairs_spare = go (before_pairs answer) Q.pair_sheet
    where
      go : (b : Bool) → pairs' ≡ cond b pairs (words_over (λ _. 0) (length pairs / 8) pairs) → drop (8 * (length pairs / 8)) pairs' ≡ drop (8 * (length pairs / 8)) pairs
      go true e = ap (drop (8 * (length pairs / 8))) e
      go false e = filled_past (λ _. 0) (length pairs / 8) pairs pairs' e

  -- the result is handed out as a part is: the front of so many bytes is the table
  pub result_front : (bytes : List ℕ) → answer ≡ value bytes → (reply.1 ≡ value (length bytes)) × (front_of (length bytes) out' ≡ bytes)
  result_front = front_is answer out reply.1 out' Q.answers Q.writes

  -- and nothing else is
  pub handed_result : (bytes : List ℕ) → HandsOut reply.1 out' bytes → Result op t₁ s₁ t₂ s₂ pairs bytes
  handed_result bytes h = result op t₁ s₁ t₂ s₂ pairs (length out) bytes (handed_out answer out reply.1 out' Q.answers Q.writes bytes h)
