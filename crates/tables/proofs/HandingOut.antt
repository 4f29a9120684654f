-- What a call hands out: what it was to write, and nothing else. Assumes nothing.
use Prim.Native.Nat.{ℕ}
use mathlib.Core.Path.{◌≡◌, refl, sym, ap, ◌∙◌}
use mathlib.Core.List.{List, ◌++◌}
use native.Mathlib.Omega.{arith}
use lib.ListN.{length, drop, length-append}
use lib.Seq.{take-append_seam}
use borrow.Author.Tests.{le-leb}
use Rattle.diagram.specs.Answer.{Answer, value, refusal}
use Rattle.diagram.proofs.AnswerLaws.{refused_not, value_inj}
use Rattle.tables.specs.Writing.{length_of, out_after, front_of, HandsOut}

-- a written table is read back
pub front_written : (bytes out : List ℕ) → front_of (length bytes) (out_after (value bytes) out) ≡ bytes
unfolding front_of out_after
front_written bytes out =
    let d = drop (length bytes) out in
    rw (le-leb (length bytes) (length (bytes ++ d)) (omega (arith, length-append bytes d))) (take-append_seam bytes d)

-- an answer in bytes, taken apart
pub answer_value : (a : Answer (List ℕ)) (m : ℕ) → length_of a ≡ value m → (bytes : List ℕ) × (a ≡ value bytes) × (length bytes ≡ m)
unfolding length_of
answer_value (value b) m e = (b, refl, value_inj e)
answer_value (refusal r p) m e = absurd (refused_not e)

pub answer_refusal : (a : Answer (List ℕ)) (number place : ℕ) → length_of a ≡ refusal number place → a ≡ refusal number place
unfolding length_of
answer_refusal (value b) number place e = absurd (refused_not (sym e))
answer_refusal (refusal r p) number place e = let i : r ≡ number = cc in let j : p ≡ place = cc in rw (i, j)

-- a call that answers the length of what it is to write, and writes it
module _ (a : Answer (List ℕ)) (out : List ℕ) (answer : Answer ℕ) (out' : List ℕ) (answers : answer ≡ length_of a) (writes : out' ≡ out_after a out) where
  -- answers the number of these bytes, and the front of so many is they
  pub front_is : (bytes : List ℕ) → a ≡ value bytes → (answer ≡ value (length bytes)) × (front_of (length bytes) out' ≡ bytes)
  unfolding length_of
  front_is bytes e = (answers ∙ ap length_of e, ap (front_of (length bytes)) (writes ∙ ap (λ (b : Answer (List ℕ)). out_after b out) e) ∙ front_written bytes out)

  -- and hands out nothing else
  pub handed_out : (bytes : List ℕ) → HandsOut answer out' bytes → a ≡ value bytes
  handed_out bytes h =
      let b = answer_value a h.count (sym answers ∙ h.answered) in
      b.1 ∙ ap value (sym (h.read ∙ ap (λ (m : ℕ). front_of m out') (sym b.2) ∙ (front_is b.0 b.1).1))
