-- A table cut at both ends: what the new root means, and the shape in which its nodes are numbered. Assumes nothing.
use Prim.Native.Nat.{ℕ, suc, ◌+◌, ◌/◌, ◌%◌, ◌^◌, ◌≤◌, ◌<◌}
use mathlib.Core.Path.{◌≡◌, sym, ap, ◌∙◌}
use mathlib.Core.Bool.{Bool, true, false, ◌&&◌}
use native.Mathlib.Omega.{arith}
use lib.Dec.{leb}
use Rattle.diagram.specs.Format.{Words}
use Rattle.diagram.specs.Meaning.{under}
use Rattle.diagram.specs.Ordered.{Ordered, Reduced}
use Rattle.diagram.proofs.Agree.{agree_height, reduced_agree}
use Rattle.cutting.specs.Cut.{cut_edge, Cut, TwiceCut}
use Rattle.cutting.proofs.Follow.{edge_inside}
use Rattle.cutting.proofs.CutOrder.{records_before, cut_ordered, cut_heights}
use Rattle.cutting.proofs.CutMeans.{cut_root}

module _ (w w₁ w₂ : Words) (n N lo hi r : ℕ) (D : Reduced w n N) (inside : r / 2 ≤ N) (few : N + n + n < 268435455) where
  -- the first cut's edge
  abbrev pub r₁ : ℕ
  r₁ = cut_edge w N n lo r n

  module _ (C₁ : Cut w n N lo r true w₁) where
    -- the second cut can be made
    pub once_ordered : Ordered w₁ n (N + n)
    once_ordered = cut_ordered w n N D.ordered lo r inside true w₁ C₁ (omega arith)

    pub once_inside : r₁ / 2 ≤ N + n
    once_inside = edge_inside w n N D.ordered lo r inside n

    -- the second cut's edge, the new root
    abbrev pub r₂ : ℕ
    r₂ = cut_edge w₁ (N + n) n hi r₁ n

    module _ (C₂ : Cut w₁ n (N + n) hi r₁ false w₂) where
      before : (k : ℕ) → k < N + n → w₁ (suc k) ≡ w₂ (suc k)
      before = records_before w₁ n (N + n) once_ordered hi r₁ once_inside false w₂ C₂ few

      pub two_shape : TwiceCut w₂ n N
      two_shape = record {
        ordered = cut_ordered w₁ n (N + n) once_ordered hi r₁ once_inside false w₂ C₂ few;
        table = reduced_agree w w₂ n N (λ k l. records_before w n N D.ordered lo r inside true w₁ C₁ (omega arith) k l ∙ before k (omega arith)) D;
        first = λ v l m. sym (agree_height w₁ w₂ (N + n) before v m) ∙ cut_heights w n N D.ordered lo r inside true w₁ C₁ (omega arith) v l m;
        second = cut_heights w₁ n (N + n) once_ordered hi r₁ once_inside false w₂ C₂ few;
      }

      pub two_inside : r₂ / 2 ≤ N + n + n
      two_inside = edge_inside w₁ n (N + n) once_ordered hi r₁ once_inside n

      pub two_means : (x : ℕ) → under w₂ r₂ x ≡ ((under w r x && leb (lo % 2 ^ n) (x % 2 ^ n)) && leb (x % 2 ^ n) (hi % 2 ^ n))
      two_means x =
          cut_root w₁ n (N + n) once_ordered hi r₁ once_inside false w₂ C₂ few x
          ∙ ap (λ (b : Bool). b && leb (x % 2 ^ n) (hi % 2 ^ n)) (cut_root w n N D.ordered lo r inside true w₁ C₁ (omega arith) x)
