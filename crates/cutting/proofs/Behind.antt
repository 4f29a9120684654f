-- The words of a table with further nodes behind it. Assumes nothing.
use Prim.Native.Nat.{ℕ, suc, ◌+◌, ◌-◌, ◌≤◌, ◌<◌}
use mathlib.Core.Path.{◌≡◌, refl, sym, subst, ◌∙◌}
use mathlib.Core.List.{List}
use native.Mathlib.Omega.{arith}
use lib.ListN.{length, get_or, set}
use lib.Seq.{get_or-set_same, get_or-set_other}
use borrow.Author.Tests.{le-leb, lt-leb}
use Rattle.words.proofs.Cases.{less, same, more, tri}
use Rattle.diagram.specs.Format.{Words}
use Rattle.cutting.specs.Cut.{extended}
use Rattle.cutting.specs.Behind.{SameTable}
use Rattle.cutting.specs.declared.Extended.{Extended}

-- the same table, said the other way round, and once more
pub same_back : {d d' : Extended} → SameTable d d' → SameTable d' d
same_back S = record { table_is = sym S.table_is; settings_are = sym S.settings_are; nodes_are = sym S.nodes_are }

pub same_trans : {d d' d'' : Extended} → SameTable d d' → SameTable d' d'' → SameTable d d''
same_trans S T = record { table_is = T.table_is ∙ S.table_is; settings_are = T.settings_are ∙ S.settings_are; nodes_are = T.nodes_are ∙ S.nodes_are }

-- what is true of the numbers of settings and of nodes stays true
pub same_sizes : {d d' : Extended} → SameTable d d' → (P : ℕ → ℕ → Type 0) → P d.n d.nodes → P d'.n d'.nodes
same_sizes {d = d} {d' = d'} S P p = subst (λ (k : ℕ). P k d'.nodes) (sym S.settings_are) (subst (λ (k : ℕ). P d.n k) (sym S.nodes_are) p)

-- a word of the table, and one behind it
pub extended_low : (w : Words) (N : ℕ) (l : List ℕ) (v r : ℕ) → v ≤ N → r ≡ w v → r ≡ extended w N l v
unfolding extended
extended_low w N l v r m e = rw (le-leb v N m) e

pub extended_high : (w : Words) (N : ℕ) (l : List ℕ) (v r : ℕ) → N < v → r ≡ get_or l (v - N) 0 → r ≡ extended w N l v
unfolding extended
extended_high w N l v r m e = rw (lt-leb v N m) e

-- a store among the nodes behind the table
module _ (w : Words) (N : ℕ) (l : List ℕ) (i x : ℕ) (p : 0 < i) where
  pub set_here : i < length l → extended w N (set l i x) (N + i) ≡ x
  set_here m =
      let e : N + i - N ≡ i = omega arith in
      sym (extended_high w N (set l i x) (N + i) x (omega arith) (rw e (sym (get_or-set_same l i x 0 m))))

  pub set_other : (k : ℕ) → (k ≡ N + i → ⊥) → extended w N (set l i x) k ≡ extended w N l k
  set_other k n = elim (tri k (suc N)) [
    | less a ↦ sym (extended_low w N (set l i x) k (extended w N l k) (omega arith) (sym (extended_low w N l k (w k) (omega arith) refl)))
    | same a ↦ above (omega arith)
    | more a ↦ above (omega arith)
  ]
    where
      above : N < k → extended w N (set l i x) k ≡ extended w N l k
      above m =
          sym (extended_high w N (set l i x) k (get_or (set l i x) (k - N) 0) m refl) ∙ get_or-set_other l i (k - N) x 0 (λ q. n (omega arith))
          ∙ extended_high w N l k (get_or l (k - N) 0) m refl
