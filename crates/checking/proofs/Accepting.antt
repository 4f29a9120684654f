-- An operation after the check: its refusal is handed on, and otherwise the table is accepted. Assumes nothing.
use Prim.Native.Nat.{ℕ, ◌*◌, ◌/◌, ◌≤◌}
use mathlib.Core.Path.{◌≡◌, sym, ap, subst, ◌∙◌}
use mathlib.Core.Bool.{Bool}
use mathlib.Core.List.{List}
use native.Mathlib.Omega.{arith}
use lib.ListN.{length}
use Rattle.words.specs.Words.{word_at}
use Rattle.diagram.specs.Format.{Words, settings, nodes}
use Rattle.diagram.specs.Meaning.{under, permitted}
use Rattle.diagram.specs.Answer.{Answer, value, refusal, and_then}
use Rattle.diagram.specs.Ordered.{Reduced, HasDiagram, Accepted}
use Rattle.diagram.specs.Reading.{IsHeader, Within}
use Rattle.diagram.proofs.Accept.{check_accepted}
use Rattle.std.specs.Prelude.{Result, Ok, Err, IsErrAnd}
use Rattle.diagram.specs.declared.Header.{Header}
use Rattle.rules.specs.declared.Refusal.{Refusal}
use Rattle.rules.specs.Refusals.{number_of, place_of, answer_as}
use Rattle.rules.proofs.Turns.{err_on}
use Rattle.checking.specs.Operations.{checking_for}
use Rattle.checking.specs.Inner.{header_as, Lends, Begins}

module _ {need : ℕ → ℕ} {t s out : List ℕ} {a : Result Header Refusal} (B : Begins need t s out a) where
  pub refused_as : {V : Type 0} (g : V → ℕ × ℕ) (b : Result V Refusal) {r : Refusal} → a ≡ Err r → IsErrAnd b (λ d. d ≡ r) → answer_as g b ≡ checking_for need t s
  refused_as g b q h = ap (answer_as g) (err_on h) ∙ sym (ap header_as q) ∙ B.answers

  -- a refusal of the check is the operation's
  pub refused_by : {B : Type 0} (f : ℕ × ℕ → Answer B) {r : Refusal} → a ≡ Err r → refusal (number_of r) (place_of r) ≡ and_then (checking_for need t s) f
  unfolding and_then
  refused_by f q = sym (ap (λ b. and_then b f) (sym B.answers ∙ ap header_as q))

  -- ... also where `?` hands it on
  pub handed_on : {V B : Type 0} (f : ℕ × ℕ → Answer B) (g : V → B) (b : Result V Refusal) {r : Refusal} → a ≡ Err r → IsErrAnd b (λ d. d ≡ r) → answer_as g b ≡ and_then (checking_for need t s) f
  handed_on f g b q h = ap (answer_as g) (err_on h) ∙ refused_by f q

  module _ {header : Header} (q : a ≡ Ok header) where
    abbrev w : Words
    w = word_at t

    abbrev n : ℕ
    n = header.settings

    abbrev N : ℕ
    N = header.nodes

    abbrev e : ℕ
    e = header.root.value

    pub checking_is : checking_for need t s ≡ value (n, N)
    checking_is = sym B.answers ∙ ap header_as q

    going_on : {B : Type 0} (f : ℕ × ℕ → Answer B) → and_then (checking_for need t s) f ≡ f (n, N)
    unfolding and_then
    going_on f = ap (λ b. and_then b f) checking_is

    accepted : Accepted t n N × (need N ≤ length s / 8)
    unfolding checking_for
    accepted = check_accepted t (length s / 8) need n N checking_is

    pub header_is : IsHeader w n N e
    header_is = (subst (Lends need t s out) q B.lends).0

    pub few_nodes : N ≤ 65535
    few_nodes = accepted.0.few

    -- the sheet has the places that are needed
    pub places_lent : 8 * need N ≤ length s
    places_lent = omega (arith, accepted.1)

    pub table_holds : HasDiagram t n N
    table_holds =
        let A = accepted.0 in
        record { long = omega (arith, A.long); few = A.few; few_settings = header_is.few_settings; ordered = A.proper.reduced.ordered }

    pub table_reduced : Reduced w n N
    table_reduced = accepted.0.proper.reduced

    pub root_inside : e / 2 ≤ N
    root_inside = omega (arith, ap (λ (r : ℕ). r / 2) header_is.root_is, accepted.0.root_node)

    pub root_within : Within t (e / 2)
    root_within = record { settings = n; nodes = N; holds = table_holds; inside = root_inside }

    -- an answer by n and the root edge is the operation's
    pub answered : {B : Type 0} (f : ℕ → (ℕ → Bool) → Answer B) (b : Answer B) → b ≡ f n (under w e) → b ≡ and_then (checking_for need t s) (λ _. f (settings w) (permitted w))
    unfolding permitted
    answered f b p = p ∙ rw (header_is.settings_is, header_is.root_is) (sym (going_on (λ _. f (settings w) (permitted w))))
