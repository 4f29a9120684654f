-- The answers about a division fit the packed form, places up to 65,535, and the sheet is handed back as asked. Assumes nothing.
use Prim.Native.Nat.{ℕ, ◌+◌}
use mathlib.Core.List.{List}
use native.Mathlib.Omega.{arith}
use Rattle.words.specs.Words.{word_at}
use Rattle.diagram.specs.Format.{nodes}
use Rattle.diagram.specs.Count.{total}
use Rattle.diagram.proofs.Refusals.{Refuses, passes, unless, then_refuses}
use Rattle.checking.specs.Operations.{checking, blank}
use Rattle.checking.specs.Sheets.{HandedBack}
use Rattle.checking.proofs.Bounds.{Low, checking_place}
use Rattle.checking.proofs.Blank.{Late, hands_back}
use Rattle.division.specs.Span.{size, start}
use Rattle.division.specs.Operations.{no_part, span_of, spanning}

-- the span refuses by 15 only
pub span_refuses : (Q : ℕ → ℕ → Type 0) → Q 15 0 → (k j c : ℕ) → Refuses Q (span_of k j c)
unfolding span_of
span_refuses Q q k j c = unless Q (no_part k j) 15 0 q (passes Q (start c k j, size c k j))

pub spanning_place : (t : List ℕ) (k j : ℕ) (s : List ℕ) → Refuses Low (spanning t k j s)
unfolding spanning
spanning_place t k j s = then_refuses Low (checking t s) _ (checking_place _ t s) (λ _ _. span_refuses Low (omega arith) k j (total (word_at t)))

pub spanning_back : (t : List ℕ) (k j : ℕ) (s : List ℕ) → HandedBack (nodes (word_at t) + 1) (spanning t k j s) s (blank t s)
unfolding spanning
spanning_back t k j s = hands_back (λ N. N + 1) t s _ (λ _. span_refuses Late (omega arith) k j (total (word_at t)))
