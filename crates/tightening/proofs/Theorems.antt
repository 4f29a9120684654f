-- What the request asks of a loose table made proper. Assumes nothing.
use Prim.Native.Nat.{ℕ, ◌+◌, ◌*◌, ◌/◌, ◌^◌, ◌≤◌, ◌<◌}
use mathlib.Core.Path.{◌≡◌, refl, sym, ◌∙◌}
use mathlib.Core.Logic.{◌⊎◌, inl, inr}
use mathlib.Core.Bool.{Bool, true, false, cond}
use mathlib.Core.List.{List}
use mathlib.Core.Option.{some}
use native.Mathlib.Omega.{arith}
use lib.Dec.{ltb}
use lib.ListN.{length}
use borrow.Author.Tests.{ne_eqb}
use Rattle.words.specs.Words.{Bytes, word_at, words_over}
use Rattle.words.proofs.Cases.{passed}
use Rattle.diagram.specs.Format.{settings, nodes}
use Rattle.diagram.specs.Meaning.{permitted}
use Rattle.diagram.specs.Answer.{Answer, value, refusal, and_then}
use Rattle.diagram.specs.Rules.{check_header_of, Accepts}
use Rattle.diagram.proofs.AnswerLaws.{refused_not, value_inj, then_some, then_unless}
use Rattle.diagram.proofs.Accept.{accepts_accepted}
use Rattle.diagram.proofs.Refusals.{Refuses, then_refuses, passes, Early, early_low, header_refuses}
use Rattle.loose.specs.Rules.{check_loose_records, check_loose, IsLoose}
use Rattle.loose.proofs.Records.{FourOrSix, records_refuse}
use Rattle.loose.proofs.Loosely.{check_loosely, loosely_lent, accepted_loosely}
use Rattle.checking.specs.Operations.{sheet_by}
use Rattle.tables.specs.Table.{table_of}
use Rattle.tables.specs.Writing.{fitted, length_of, front_of, HandsOut}
use Rattle.tables.proofs.TableFor.{TableFor}
use Rattle.tables.proofs.TableLaws.{node_count-some, table_of-is, table_of-some, table_of-long, accepted_table}
use Rattle.tables.proofs.Writes.{fitted_some, only_eleven}
use Rattle.tables.proofs.HandingOut.{front_is, handed_out}
use Rattle.tightening.specs.Operations.{needed, checking_loose, making_proper, sheet_after, Promise}

module _ (t s : List ℕ) (room : ℕ) where
  abbrev n : ℕ
  n = settings (word_at t)

  -- the written table is the table of the loose table's setups
  pub written_table : (bytes : List ℕ) → making_proper t s room ≡ value bytes → table_of n (permitted (word_at t)) ≡ some bytes
  unfolding making_proper
  written_table bytes e = fitted_some room (table_of n (permitted (word_at t))) bytes (then_some (checking_loose t s) _ e).2

  module _ (bytes : List ℕ) (e : making_proper t s room ≡ value bytes) where
    for : (N : ℕ) × Bytes bytes × TableFor n (permitted (word_at t)) bytes N
    for = table_of-some n (permitted (word_at t)) bytes (written_table bytes e)

    -- it is proper: accepted by paper 01's rules, with the same n
    pub written_accepted : (N : ℕ) × Accepts bytes n N
    written_accepted = (for.0, for.2.accepts)

    -- and permits the same setups
    pub written_permits : (x : ℕ) → x < 2 ^ n → permitted (word_at bytes) x ≡ permitted (word_at t) x
    written_permits = for.2.permits

-- a loose table is served, whatever it holds: refused by 10, or the table of its setups, where there is room for it
pub loose_served : (t s : List ℕ) (room n N : ℕ) → IsLoose t n N
    → making_proper t s room ≡ cond (ltb (length s / 8) (needed N)) (refusal 10 0) (fitted room (table_of n (permitted (word_at t))))
unfolding making_proper checking_loose
loose_served t s room n N e =
    let L = (check_loosely t 0 (λ _. 0) n N e).0 in
    rw (loosely_lent t (length s / 8) needed n N L, L.has_settings) (then_unless (ltb (length s / 8) (needed N)) 10 0 (n, N) (λ _. fitted room (table_of n (permitted (word_at t)))))

-- a table is loose
pub accepts_loose : (t : List ℕ) (n N : ℕ) → Accepts t n N → IsLoose t n N
accepts_loose t n N a = loosely_lent t 0 (λ _. 0) n N (accepted_loosely t n N (accepts_accepted t n N a))

-- and comes back unchanged, unless it is refused by 10 or 11
pub proper_back : (t s : List ℕ) (room n N : ℕ) → Bytes t → Accepts t n N
    → making_proper t s room ≡ cond (ltb (length s / 8) (needed N)) (refusal 10 0) (cond (ltb room (length t)) (refusal 11 0) (value t))
unfolding fitted
proper_back t s room n N b a = loose_served t s room n N (accepts_loose t n N a) ∙ rw (accepted_table n t N b a)

-- the refusals of the loose table's own rules: 1 to 3 and 10, at place 0, and 4 and 6, at a record
abbrev pub Own : ℕ → ℕ → ℕ → Type 0
Own N number place = Early number place ⊎ FourOrSix N number place

pub own_refusals : (t s : List ℕ) → Refuses (Own (nodes (word_at t))) (checking_loose t s)
unfolding checking_loose check_loose
own_refusals t s =
    let w = word_at t in
    let own = Own (nodes w) in
    then_refuses own (check_header_of true t (length s / 8) needed) _ (λ r p e. inl (header_refuses true t (length s / 8) needed r p e)) λ _ _.
    then_refuses own (check_loose_records w (settings w) (nodes w)) _ (λ r p e. inr (records_refuse w (settings w) (nodes w) r p e)) λ _ _.
    passes own (settings w, nodes w)

own_low : {N number place : ℕ} → Own N number place → (number ≡ 9 → ⊥) × (number ≤ 10)
own_low (inl h) = early_low h
own_low (inr h) = elim h.0 [ inl a ↦ (λ i. omega arith, omega arith) | inr a ↦ (λ i. omega arith, omega arith) ]

-- of a call that keeps the promise
module _ (t s out : List ℕ) (answer : Answer ℕ) (s' out' : List ℕ) (P : Promise t s out answer s' out') where
  -- where the loose table passes there is a table to be written
  table_there : (v : ℕ × ℕ) → checking_loose t s ≡ value v → (bytes : List ℕ) × (table_of (settings (word_at t)) (permitted (word_at t)) ≡ some bytes) × (length bytes ≤ length t)
  unfolding checking_loose
  table_there v e =
      let L = (check_loosely t (length s / 8) needed v.0 v.1 e).0 in
      let c = P.not_more v.0 v.1 e in
      let q = permitted (word_at t) in
      let m = node_count-some v.0 q c.0 c.2 in
      let a = table_of-is v.0 q m.0 c.0 m.1 m.2 in
      (m.0, rw L.has_settings a, omega (arith, table_of-long v.0 q m.0 c.0 a c.2, c.1, L.long))

  -- so what is answered is a refusal of the loose table's own rules
  abbrev Refused : Type 0
  Refused = (number : ℕ) × (place : ℕ) × (checking_loose t s ≡ refusal number place) × (answer ≡ refusal number place)

  -- ... or that table's length, or 11
  abbrev Served : Type 0
  Served = (bytes : List ℕ) × (table_of (settings (word_at t)) (permitted (word_at t)) ≡ some bytes) × (length bytes ≤ length t) × (answer ≡ cond (ltb (length out) (length bytes)) (refusal 11 0) (value (length bytes)))

  pub answered : Refused ⊎ Served
  unfolding making_proper length_of and_then fitted
  answered = go (checking_loose t s) refl
    where
      fits : (c : Bool) (bytes : List ℕ) → length_of (cond c (refusal 11 0) (value bytes)) ≡ cond c (refusal 11 0) (value (length bytes))
      fits true bytes = refl
      fits false bytes = refl

      go : (a : Answer (ℕ × ℕ)) → checking_loose t s ≡ a → Refused ⊎ Served
      go (refusal number place) e = inl (number, place, e, P.answers ∙ rw e)
      go (value v) e =
          let b = table_there v e in
          inr (b.0, b.1, b.2, P.answers ∙ rw (e, b.1) (fits (ltb (length out) (length b.0)) b.0))

  -- 16 is never answered
  pub no_sixteen : (place : ℕ) → answer ≡ refusal 16 place → ⊥
  no_sixteen place e = elim answered [
    | inl (number, at, own, is) ↦ let i : number ≡ 16 = cc in omega (arith, (own_low (own_refusals t s number at own)).1)
    | inr (bytes, there, long, is) ↦ omega (arith, only_eleven (ltb (length out) (length bytes)) (length bytes) (sym is ∙ e))
  ]

  -- and the written table has no more nodes than the loose one
  pub no_longer : (m : ℕ) → answer ≡ value m → m ≤ length t
  no_longer m e = elim answered [
    | inl (number, at, own, is) ↦ absurd (refused_not (sym is ∙ e))
    | inr (bytes, there, long, is) ↦ omega (arith, long, value_inj (passed (ltb (length out) (length bytes)) refused_not (sym is ∙ e)).1)
  ]

  -- the table is handed out as a part is: the front of so many bytes is it
  pub written_front : (bytes : List ℕ) → making_proper t s (length out) ≡ value bytes → (answer ≡ value (length bytes)) × (front_of (length bytes) out' ≡ bytes)
  written_front = front_is (making_proper t s (length out)) out answer out' P.answers P.writes

  -- and nothing else is
  pub handed_table : (bytes : List ℕ) → HandsOut answer out' bytes → table_of (settings (word_at t)) (permitted (word_at t)) ≡ some bytes
  handed_table bytes h = written_table t s (length out) bytes (handed_out (making_proper t s (length out)) out answer out' P.answers P.writes bytes h)

-- the sheet: a refusal of the loose table's own rules leaves it untouched
pub sheet_untouched : (t s : List ℕ) (number place : ℕ) → checking_loose t s ≡ refusal number place → sheet_after t s ≡ s
unfolding sheet_after sheet_by
sheet_untouched t s number place e = rw (e, ne_eqb number 9 (own_low (own_refusals t s number place e)).0)

-- after everything else the places that are needed are zero, and what lies past them is as before
pub sheet_zero : (t s : List ℕ) (n N : ℕ) → checking_loose t s ≡ value (n, N) → sheet_after t s ≡ words_over (λ _. 0) (8 * N + 512) s
unfolding sheet_after sheet_by checking_loose
sheet_zero t s n N e = rw (e, (check_loosely t (length s / 8) needed n N e).0.has_nodes)
