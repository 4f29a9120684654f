-- `reducing::result_of` meets its contract. Assumes nothing.
use mathlib.Core.Path.{◌≡◌, sym, ◌∙◌}
use mathlib.Core.Bool.{true, false}
use native.Mathlib.Omega.{arith}
use borrow.Author.Tests.{eqb-false}
use Rattle.reducing.proofs.Giving.{result_made}
use Rattle.reducing.proofs.result_of.Goals as goal
use Rattle.reducing.proofs.result_of.Goals.{Else-eq}

pub normal_word-requires : goal.normal_word-requires
normal_word-requires c =
    let p = c.requires in
    (p.3, omega (arith, c.word_at.ensures, p.4.small true), omega (arith, c.word_at-2.ensures, p.4.small false))

-- the edges differ
differ : (c : Else-eq) → c.word_at.result ≡ c.word_at-2.result → ⊥
differ c = eqb-false _ _ (sym c.eq.ensures ∙ c.if-eq.false)

pub returns : goal.returns
returns c =
    let f = c.find-k.ensures in
    result_made _ _ _ _ _ _ _ _ c.word_at.ensures c.word_at-2.ensures (differ (goal.at.returns c).Else-eq) f.1 (f.2 ∙ c.normal_word.ensures)
