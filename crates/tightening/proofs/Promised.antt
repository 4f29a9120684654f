-- The promise, rule by rule, in the terms of the code. Assumes nothing.
use Prim.Native.Nat.{ℕ, ◌+◌, ◌*◌, ◌/◌, ◌≤◌}
use mathlib.Core.Path.{◌≡◌, refl, sym, ap, subst, ◌∙◌}
use mathlib.Core.Logic.{inl, inr}
use mathlib.Core.Bool.{Bool, true}
use mathlib.Core.List.{List}
use native.Mathlib.Omega.{arith}
use lib.ListN.{length}
use borrow.Author.Tests.{ne_eqb, le-ltb}
use Rattle.words.specs.Words.{word_at, words_over}
use Rattle.diagram.specs.Format.{Words, nodes, root}
use Rattle.diagram.specs.Meaning.{permitted}
use Rattle.diagram.specs.Answer.{Answer, value, refusal, and_then, pass}
use Rattle.diagram.specs.Rules.{check_header_of}
use Rattle.diagram.specs.Ordered.{Accepted}
use Rattle.diagram.specs.Reading.{IsHeader}
use Rattle.diagram.proofs.AnswerLaws.{refused_not, value_inj}
use Rattle.diagram.proofs.Refusals.{early_low, header_refuses}
use Rattle.diagram.proofs.Accept.{Headed, headed, some_root}
use Rattle.rules.specs.declared.Refusal.{Refusal}
use Rattle.std.specs.Prelude.{Result, Ok, Err}
use Rattle.rules.specs.Refusals.{number_of, place_of, verdict_as}
use Rattle.loose.specs.Rules.{check_loose_records, check_loose}
use Rattle.loose.specs.Inner.{Loosely}
use Rattle.loose.proofs.Records.{records_refuse, passes_loose}
use Rattle.loose.proofs.Loosely.{loosely_lent}
use Rattle.checking.specs.Operations.{sheet_by}
use Rattle.tables.specs.Table.{table_of}
use Rattle.tables.specs.Writing.{fitted, length_of, out_after}
use Rattle.tightening.specs.Operations.{needed, checking_loose, making_proper, sheet_after, Promise}
use Rattle.tightening.specs.Inner.{Tightens}

-- the same under another name of n
pub accepted_as : {t : List ℕ} {m n N : ℕ} → m ≡ n → Accepted t m N → Accepted t n N
accepted_as {t} {m} {n} {N} e = subst (λ (k : ℕ). Accepted t k N) e

pub tightens_as : {m n N : ℕ} {Q : ℕ → Bool} {out out' : List ℕ} {answer : Answer ℕ} → m ≡ n → Tightens m N Q out answer out' → Tightens n N Q out answer out'
tightens_as {m} {n} {N} {Q} {out} {out'} {answer} e = subst (λ (k : ℕ). Tightens k N Q out answer out') e

-- the promise, of the answer by its definition
pub as_defined : {t s out : List ℕ} {a : Answer ℕ} {s' out' : List ℕ} → Promise t s out a s' out' → Promise t s out (length_of (making_proper t s (length out))) s' out'
as_defined p = record { answers = refl; writes = p.writes; blanks = p.blanks; not_more = p.not_more }

module _ (t s out : List ℕ) where
  abbrev w : Words
  w = word_at t

  -- a refusal of the loose table's own: nothing is touched
  pub own_refused : (number place : ℕ) → checking_loose t s ≡ refusal number place → (number ≡ 9 → ⊥) → Promise t s out (refusal number place) s out
  unfolding making_proper sheet_after sheet_by and_then length_of out_after
  own_refused number place e nine = record {
    answers = rw e;
    writes = rw e;
    blanks = rw (e, ne_eqb number 9 nine);
    not_more = λ n N q. absurd (refused_not (sym e ∙ q));
  }

  -- the verdict v on the header, then u on the records
  module _ (v : Result (Unit {0}) Refusal) (v-is : verdict_as v ≡ check_header_of true t (length s / 8) needed) where
    pub header_refused : (r : Refusal) → v ≡ Err r → Promise t s out (refusal (number_of r) (place_of r)) s out
    unfolding checking_loose check_loose and_then
    header_refused r q =
        let e : check_header_of true t (length s / 8) needed ≡ refusal (number_of r) (place_of r) = sym v-is ∙ ap verdict_as q in
        own_refused (number_of r) (place_of r) (rw e) (early_low (header_refuses true t (length s / 8) needed (number_of r) (place_of r) e)).0

    header_passed : v ≡ Ok tt → check_header_of true t (length s / 8) needed ≡ pass
    header_passed passed = sym v-is ∙ ap verdict_as passed

    pub header_holds : v ≡ Ok tt → Headed true t (length s / 8) needed
    header_holds passed = headed true t (length s / 8) needed (header_passed passed)

    module _ (passed : v ≡ Ok tt) (n N e : ℕ) (h : IsHeader w n N e) where
      abbrev H : Headed true t (length s / 8) needed
      H = header_holds passed

      -- the table is long enough, and so is the sheet
      pub header_long : length t ≡ 8 * (N + 1)
      header_long = omega (arith, H.long, h.nodes_is)

      pub header_few : N ≤ 65535
      header_few = omega (arith, H.few, h.nodes_is)

      pub header_enough : 8 * needed N ≤ length s
      header_enough = omega (arith, H.enough, h.nodes_is)

      module _ (u : Result (Unit {0}) Refusal) (u-is : verdict_as u ≡ check_loose_records w n N) where
        pub records_refused : (r : Refusal) → u ≡ Err r → Promise t s out (refusal (number_of r) (place_of r)) s out
        unfolding checking_loose check_loose and_then
        records_refused r q =
            let d : check_loose_records w n N ≡ refusal (number_of r) (place_of r) = sym u-is ∙ ap verdict_as q in
            own_refused (number_of r) (place_of r) (rw (header_passed passed, ← h.settings_is, ← h.nodes_is, d))
            (λ z. elim (records_refuse w n N (number_of r) (place_of r) d).0 [ inl a ↦ omega arith | inr a ↦ omega arith ])

        -- records that pass are those of a loose table
        pub records_loosely : u ≡ Ok tt → Loosely t n N
        records_loosely q = record {
          long = header_long;
          few = header_few;
          has_settings = sym h.settings_is;
          has_nodes = sym h.nodes_is;
          root_node = omega (arith, some_root (root w / 2) (nodes w) H.right_root, h.nodes_is);
          records = passes_loose w n N (sym u-is ∙ ap verdict_as q);
        }

  -- the table, where there is room for it
  pub tightened : (n N : ℕ) → Loosely t n N → 8 * needed N ≤ length s → (answer : Answer ℕ) (s' out' : List ℕ) → Tightens n N (permitted w) out answer out'
      → s' ≡ words_over (λ _. 0) (needed N) s → Promise t s out answer s' out'
  unfolding making_proper and_then sheet_after sheet_by
  tightened n N L enough answer s' out' T z =
      let e : checking_loose t s ≡ value (n, N) = unfold checking_loose in loosely_lent t (length s / 8) needed n N L ∙ rw (le-ltb (length s / 8) (needed N) (omega arith)) in
      let m : making_proper t s (length out) ≡ fitted (length out) (table_of n (permitted w)) = rw (e, L.has_settings) in
      record {
        answers = rw m T.writes.answers;
        writes = rw m T.writes.leaves;
        blanks = rw (e, L.has_nodes) z;
        not_more = λ a b q. let i = value_inj (sym e ∙ q) in let p : n ≡ a = ap (λ v. v.0) i in let r : N ≡ b = ap (λ v. v.1) i in rw (← p, ← r) T.not_more;
      }
