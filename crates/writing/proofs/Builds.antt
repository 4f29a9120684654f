-- Cutting, marking and numbering, put together. Assumes nothing.
use Prim.Native.Nat.{ℕ, suc, ◌+◌, ◌/◌, ◌^◌, ◌≤◌, ◌<◌}
use mathlib.Core.Path.{◌≡◌, refl, sym, ap, ◌∙◌, subst}
use mathlib.Core.Bool.{true, false}
use mathlib.Core.List.{List}
use native.Mathlib.Omega.{arith}
use native.Mathlib.Nat.{add-zero, le_refl, mod-eq_of_lt}
use Rattle.diagram.specs.Format.{Words}
use Rattle.diagram.specs.Meaning.{under}
use Rattle.diagram.specs.Ordered.{Ordered, Reduced}
use Rattle.diagram.proofs.Agree.{agree_under, reduced_agree}
use Rattle.cutting.specs.Cut.{extended, cut_edge, Cut, TwiceCut}
use Rattle.cutting.proofs.Behind.{extended_low}
use Rattle.cutting.proofs.TwoCuts.{once_ordered, once_inside, two_shape, two_inside, two_means}
use Rattle.numbering.specs.Numbered.{Marked, KeepsOrder, Alike, AllNumbered}
use Rattle.numbering.proofs.Finish.{finish}
use Rattle.writing.specs.Inner.{between, IsBuilt}

-- a table w of N nodes, with a list behind it
module _ (w : Words) (n N : ℕ) (D : Reduced w n N) (few_settings : n ≤ 63) (few_nodes : N ≤ 65535) (r : ℕ) (inside : r / 2 ≤ N) (l : List ℕ) where
  abbrev w₀ : Words
  w₀ = extended w N l

  same : (k : ℕ) → k < N → w (suc k) ≡ w₀ (suc k)
  same k m = extended_low w N l (suc k) (w (suc k)) m refl

  D₀ : Reduced w₀ n N
  D₀ = reduced_agree w w₀ n N same D

  -- the first cut can be made
  pub none_ordered : Ordered w₀ n (N + 0)
  none_ordered = subst (λ (k : ℕ). Ordered w₀ n k) (sym (add-zero N)) D₀.ordered

  few : N + n + n < 268435455
  few = omega arith

  -- the first cut, at lo, with edge a
  module _ (w₁ w₂ : Words) (lo hi a b : ℕ) (C₁ : Cut w₀ n (N + 0) lo r true w₁) (a-is : a ≡ cut_edge w₀ (N + 0) n lo r n) where
    lower : Cut w₀ n N lo r true w₁
    lower = subst (λ (k : ℕ). Cut w₀ n k lo r true w₁) (add-zero N) C₁

    lower_edge : a ≡ cut_edge w₀ N n lo r n
    lower_edge = a-is ∙ ap (λ (k : ℕ). cut_edge w₀ k n lo r n) (add-zero N)

    pub first_ordered : Ordered w₁ n (N + n)
    first_ordered = once_ordered w₀ w₁ w₂ n N lo hi r D₀ inside few lower

    pub first_inside : a / 2 ≤ N + n
    first_inside = rw lower_edge (once_inside w₀ w₁ w₂ n N lo hi r D₀ inside few lower)

    -- the second, at hi, with edge b
    module _ (C₂ : Cut w₁ n (N + n) hi a false w₂) (b-is : b ≡ cut_edge w₁ (N + n) n hi a n) where
      upper : Cut w₁ n (N + n) hi (cut_edge w₀ N n lo r n) false w₂
      upper = subst (λ (e : ℕ). Cut w₁ n (N + n) hi e false w₂) lower_edge C₂

      upper_edge : b ≡ cut_edge w₁ (N + n) n hi (cut_edge w₀ N n lo r n) n
      upper_edge = b-is ∙ ap (λ (e : ℕ). cut_edge w₁ (N + n) n hi e n) lower_edge

      pub twice_cut : TwiceCut w₂ n N
      twice_cut = two_shape w₀ w₁ w₂ n N lo hi r D₀ inside few lower upper

      pub second_inside : b / 2 ≤ N + n + n
      second_inside = rw upper_edge (two_inside w₀ w₁ w₂ n N lo hi r D₀ inside few lower upper)

      -- what is left is what the table permits from lo to hi
      means : lo < 2 ^ n → hi < 2 ^ n → (x : ℕ) → x < 2 ^ n → under w₂ b x ≡ between (under w r) lo hi x
      unfolding between
      means p q x m =
          ap (λ (e : ℕ). under w₂ e x) upper_edge ∙ two_means w₀ w₁ w₂ n N lo hi r D₀ inside few lower upper x
          ∙ rw (← (agree_under w w₀ n N D.ordered N (le_refl N) same r x inside), mod-eq_of_lt p, mod-eq_of_lt q, mod-eq_of_lt m)

      -- marked by W₀, and numbered by W
      pub built : lo < 2 ^ n → hi < 2 ^ n → (W₀ W : Words) (c : ℕ) → Marked w₂ W₀ (N + n + n) b → Alike W₀ W → AllNumbered w₂ W (N + n + n) c
          → KeepsOrder W (N + 1) → c ≤ N + n + n → IsBuilt w n N r lo hi w₂ W c b
      built p q W₀ W c K A G O m = record {
        means = means p q;
        finished = finish w₂ W₀ W n (N + n + n) c b twice_cut.ordered K A G (omega arith) second_inside;
        keyed = record { ordered = twice_cut.ordered; closed = G.closed; small = λ v i. omega (arith, G.numbered.small v i) };
        plain = record { table = twice_cut.table; kept = O };
        inside = second_inside;
        top = A.up (b / 2) K.top;
      }
