-- Where the check refuses a table, the sheet that it leaves serves as the one that was lent. Assumes nothing.
use Prim.Native.Nat.{ℕ, ◌/◌, ◌≤◌}
use mathlib.Core.Path.{◌≡◌, refl, ap, subst, ◌∙◌}
use mathlib.Core.Logic.{◌⊎◌, inl, inr}
use mathlib.Core.Bool.{Bool, true, false}
use mathlib.Core.List.{List}
use native.Mathlib.Nat.{le_refl}
use native.Mathlib.Omega.{arith}
use lib.Dec.{eqb}
use lib.ListN.{length}
use borrow.Author.Tests.{eqb-true, le-ltb}
use Rattle.words.specs.Words.{word_at, words_over}
use Rattle.words.proofs.Laws.{length-words_over, over_over}
use Rattle.diagram.specs.Format.{Words, settings, nodes, root}
use Rattle.diagram.specs.Answer.{Answer, value, refusal}
use Rattle.diagram.specs.Rules.{check}
use Rattle.diagram.proofs.Refusals.{nine_headed, nine_records}
use Rattle.diagram.proofs.Accept.{headed, last_root, records_reduced}
use Rattle.diagram.proofs.Paths.{ordered_loose}
use Rattle.loose.specs.Rules.{check_loose}
use Rattle.loose.specs.Inner.{Loosely}
use Rattle.loose.proofs.Loosely.{loosely_lent}
use Rattle.checking.specs.Operations.{checking_for, sheet_by, blank_for}
use Rattle.tightening.specs.Operations.{needed, checking_loose, making_proper, sheet_after, Promise}

module _ (t s : List ℕ) (number place : ℕ) (e : checking_for needed t s ≡ refusal number place) where
  abbrev w : Words
  w = word_at t

  -- after 9 it is blank, but then the table is loose
  nine_loosely : number ≡ 9 → Loosely t (settings w) (nodes w) × (needed (nodes w) ≤ length s / 8)
  unfolding checking_for
  nine_loosely nine =
      let q = subst (λ (r : ℕ). check t (length s / 8) needed ≡ refusal r place) nine e in
      let H = headed false t (length s / 8) needed (nine_headed t (length s / 8) needed place q) in (
        record {
          long = H.long;
          few = H.few;
          has_settings = refl;
          has_nodes = refl;
          root_node = omega (arith, last_root (root w / 2) (nodes w) H.right_root);
          records = ordered_loose w (settings w) (nodes w) (records_reduced w (settings w) (nodes w) (nine_records t (length s / 8) needed place q)).ordered;
        },
        H.enough,
      )

  -- the sheet that the check leaves
  abbrev left : List ℕ
  left = blank_for needed t s

  left_is : ((number ≡ 9) × (left ≡ words_over (λ _. 0) (needed (nodes w)) s)) ⊎ (left ≡ s)
  unfolding blank_for sheet_by
  left_is = go (eqb number 9) refl
    where
      go : (b : Bool) → eqb number 9 ≡ b
          → ((number ≡ 9) × (sheet_by (λ _. 0) (needed (nodes w)) (checking_for needed t s) s ≡ words_over (λ _. 0) (needed (nodes w)) s)) ⊎ (sheet_by (λ _. 0) (needed (nodes w)) (checking_for needed t s) s ≡ s)
      go true q = inl (eqb-true number 9 q, rw (e, q))
      go false q = inr (rw (e, q))

  left_long : length left ≡ length s
  left_long = elim left_is [ inl (nine, is) ↦ ap length is ∙ length-words_over (λ _. 0) (needed (nodes w)) s (omega (arith, (nine_loosely nine).1)) | inr is ↦ ap length is ]

  left_after : sheet_after t left ≡ sheet_after t s
  unfolding sheet_after sheet_by checking_loose
  left_after = elim left_is [
    | inl (nine, is) ↦ let L = nine_loosely nine in
        let v : check_loose t (length s / 8) needed ≡ value (settings w, nodes w) = loosely_lent t (length s / 8) needed (settings w) (nodes w) L.0 ∙ rw (le-ltb (length s / 8) (needed (nodes w)) L.1) in
        rw (left_long, v) (ap (words_over (λ _. 0) (needed (nodes w))) is ∙ over_over (λ _. 0) (λ _. 0) (needed (nodes w)) (needed (nodes w)) s (le_refl (needed (nodes w))))
    | inr is ↦ ap (sheet_after t) is
  ]

  pub left_promised : (s₁ : List ℕ) → s₁ ≡ left → {out out' s' : List ℕ} {a : Answer ℕ} → Promise t s₁ out a s' out' → Promise t s out a s' out'
  unfolding making_proper checking_loose
  left_promised s₁ is {out} {out'} {s'} {a} Q = let P = subst (λ (x : List ℕ). Promise t x out a s' out') is Q in record {
    answers = rw left_long at P.answers;
    writes = rw left_long at P.writes;
    blanks = P.blanks ∙ left_after;
    not_more = rw left_long at P.not_more;
  }
