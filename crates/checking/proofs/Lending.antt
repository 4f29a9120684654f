-- The sheet that the check leaves to an operation, and how it is handed back. Assumes nothing.
use Prim.Native.Nat.{ℕ, ◌+◌, ◌*◌, ◌≤◌}
use mathlib.Core.Path.{◌≡◌, refl, sym, ap, subst, fun_ext, ◌∙◌}
use mathlib.Core.Bool.{Bool, true, false, cond}
use mathlib.Core.List.{List, ◌++◌}
use native.Mathlib.Nat.{le_refl}
use native.Mathlib.Omega.{arith}
use lib.Dec.{eqb}
use lib.ListN.{length, take, drop}
use lib.Seq.{length-take-le, length_front, drop_at}
use Rattle.words.specs.Words.{word_at, words_bytes, words_over}
use Rattle.words.proofs.Laws.{length-words_bytes, over_over}
use Rattle.diagram.specs.Format.{nodes}
use Rattle.diagram.specs.Count.{place}
use Rattle.diagram.specs.Answer.{Answer, value, refusal}
use Rattle.rules.specs.declared.Refusal.{Refusal}
use Rattle.counting.specs.Inner.{stored, Countable}
use Rattle.std.specs.Prelude.{Result, Ok, Err}
use Rattle.diagram.specs.declared.Header.{Header}
use Rattle.checking.specs.Operations.{sheet_by, blank_for, counts}
use Rattle.checking.specs.Inner.{header_as, Lends, Begins, Past}
use Rattle.checking.proofs.Accepting.{checking_is, header_is, places_lent, table_holds, table_reduced, root_inside}

-- the places that are needed, said in another way
pub begins_for : {need : ℕ → ℕ} (need' : ℕ → ℕ) → ((N : ℕ) → need N ≡ need' N) → {t s out : List ℕ} {a : Result Header Refusal} → Begins need t s out a → Begins need' t s out a
begins_for need' e {t} {s} {out} {a} B = subst (λ (need : ℕ → ℕ). Begins need t s out a) (fun_ext e) B

-- N + 1 places are enough where N + 1 are needed
pub enough : (N : ℕ) → N + 1 ≤ N + 1
enough N = le_refl (N + 1)

-- places that are filled leave those past them as they were
pub filled_past : (f : ℕ → ℕ) (m : ℕ) (s s' : List ℕ) → s' ≡ words_over f m s → Past m s s'
unfolding words_over
filled_past f m s s' q = ap (drop (8 * m)) q ∙ drop_at (words_bytes f m) (drop (8 * m) s) (8 * m) (length-words_bytes f m)

-- ... and so does the use of the first m places, lent as memory of their own
pub lent_past : (m : ℕ) (s front : List ℕ) → 8 * m ≤ length s → length front ≡ length (take (8 * m) s) → Past m s (front ++ drop (8 * m) s)
lent_past m s front l e = drop_at front (drop (8 * m) s) (8 * m) (e ∙ length-take-le (8 * m) s l)

-- ... and what an answer leaves
pub kept_past : {A : Type 0} (f : ℕ → ℕ) (m : ℕ) (a : Answer A) (s s' : List ℕ) → s' ≡ sheet_by f m a s → Past m s s'
unfolding sheet_by
kept_past f m (value v) s s' q = filled_past f m s s' q
kept_past f m (refusal number k) s s' q = ap (drop (8 * m)) q ∙ go (eqb number 9)
  where
    go : (b : Bool) → Past m s (cond b (words_over (λ _. 0) m s) s)
    go true = filled_past (λ _. 0) m s _ refl
    go false = refl

module _ {need : ℕ → ℕ} {t s out : List ℕ} {a : Result Header Refusal} (B : Begins need t s out a) where
  -- refused: the sheet is blank
  pub handed_back : {r : Refusal} → a ≡ Err r → out ≡ blank_for need t s
  handed_back q = subst (Lends need t s out) q B.lends

  module _ {header : Header} (q : a ≡ Ok header) where
    as_lent : out ≡ s
    as_lent = (subst (Lends need t s out) q B.lends).1

    abbrev N : ℕ
    N = header.nodes

    pub places_left : 8 * need N ≤ length out
    places_left = rw as_lent (places_lent B q)

    nodes_is : N ≡ nodes (word_at t)
    nodes_is = (header_is B q).nodes_is

    -- whatever was done with its places, they are blanked at the end
    pub blanked : (s' s'' : List ℕ) → Past (need N) out s' → s'' ≡ words_over (λ _. 0) (need N) s' → s'' ≡ blank_for need t s
    unfolding blank_for sheet_by words_over
    blanked s' s'' past z =
        z ∙ ap (λ (r : List ℕ). words_bytes (λ _. 0) (need N) ++ r) (past ∙ ap (drop (8 * need N)) as_lent)
        ∙ ap (λ (m : ℕ). words_over (λ _. 0) (need m) s) nodes_is
        ∙ sym (ap (λ b. sheet_by (λ _. 0) (need (nodes (word_at t))) b s) (checking_is B q))

    pub countable : N + 1 ≤ need N → Countable t out header.settings N header.root.value
    countable some = record { holds = table_holds B q; reduced = table_reduced B q; inside = root_inside B q; room = omega (arith, places_left) }

    -- the places needed, lent to the operation's inner function as memory of their own
    pub front_sizes : (N ≤ 65535) × (8 * need N ≤ length out)
    front_sizes = ((table_holds B q).few, places_left)

    pub front_long : length (take (8 * need N) out) ≡ 8 * need N
    front_long = length-take-le (8 * need N) out places_left

    pub front_countable : N + 1 ≤ need N → Countable t (take (8 * need N) out) header.settings N header.root.value
    front_countable some = record { holds = table_holds B q; reduced = table_reduced B q; inside = root_inside B q; room = omega (arith, front_long) }

    -- ... and handed back, of the same length
    module _ (front : List ℕ) (same : length front ≡ length (take (8 * need N) out)) where
      pub front_back : 8 * need N ≤ length (front ++ drop (8 * need N) out)
      front_back = omega (arith, places_left, length_front out front (8 * need N) same)

      pub front_blanked : (s'' : List ℕ) → s'' ≡ words_over (λ _. 0) (need N) (front ++ drop (8 * need N) out) → s'' ≡ blank_for need t s
      front_blanked s'' z = blanked (front ++ drop (8 * need N) out) s'' (lent_past (need N) out front places_left same) z

-- counting: refused, its sheet is the blank one; otherwise the counts stand over the shares
module _ {t s out : List ℕ} {a : Result Header Refusal} (B : Begins (λ N. N + 1) t s out a) where
  pub counts_refused : {r : Refusal} → a ≡ Err r → out ≡ counts t s
  unfolding blank_for counts sheet_by
  counts_refused q = let e = sym B.answers ∙ ap header_as q in handed_back B q ∙ rw e

  pub counts_left : {header : Header} → a ≡ Ok header → (s' s'' : List ℕ) → s' ≡ words_over (stored (word_at t)) (header.nodes + 1) out
      → s'' ≡ words_over (place (word_at t)) (header.nodes + 1) s' → s'' ≡ counts t s
  unfolding counts sheet_by
  counts_left {header} q s' s'' shares settled =
      let w = word_at t in
      let N = header.nodes in
      settled ∙ ap (words_over (place w) (N + 1)) shares ∙ over_over (place w) (stored w) (N + 1) (N + 1) out (le_refl (N + 1))
      ∙ ap (words_over (place w) (N + 1)) (as_lent B q) ∙ ap (λ (m : ℕ). words_over (place w) (m + 1) s) (nodes_is B q)
      ∙ sym (ap (λ b. sheet_by (place w) (nodes w + 1) b s) (checking_is B q))
