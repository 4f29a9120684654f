-- Records copied behind a header, one by one. Assumes nothing.
use Prim.Native.Nat.{ℕ, suc, ◌+◌}
use mathlib.Core.Path.{◌≡◌, sym, ap, ◌∙◌}
use mathlib.Core.List.{List}
use native.Mathlib.Omega.{arith}
use Rattle.words.specs.Words.{word_at}
use Rattle.words.proofs.Cases.{less, same, more, tri}
use Rattle.words.proofs.Stores.{Updated}
use Rattle.compiling.specs.Inner.{HoldsTable}

module _ (W : ℕ → ℕ) (header : ℕ) where
  -- no record yet
  pub copied_none : (out : List ℕ) → word_at out 0 ≡ header → HoldsTable W 0 header out
  copied_none out e = record { first = e; records = λ k l. absurd (omega arith) }

  -- one more
  pub copied_next : (out out' : List ℕ) (k word : ℕ) → HoldsTable W k header out → word ≡ W k → Updated (word_at out) (word_at out') (k + 1) word → HoldsTable W (k + 1) header out'
  copied_next out out' k word T e U = record {
    first = U.other 0 (λ q. omega arith) ∙ T.first;
    records = λ i l. elim (tri i k) [
      | less q ↦ U.other (suc i) (λ r. omega arith) ∙ T.records i q
      | same q ↦ ap (word_at out') (let r : suc i ≡ k + 1 = omega arith in r) ∙ U.here ∙ e ∙ ap W (sym q)
      | more q ↦ absurd (omega arith)
    ];
  }

  -- with the header as it was stored
  pub copied_under : (out out₁ out' : List ℕ) (c word : ℕ) → Updated (word_at out) (word_at out₁) 0 word → word ≡ header → HoldsTable W c (word_at out₁ 0) out' → HoldsTable W c header out'
  copied_under out out₁ out' c word U e T = record { first = T.first ∙ U.here ∙ e; records = T.records }
