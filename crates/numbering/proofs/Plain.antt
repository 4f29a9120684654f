-- Nodes of a reduced table whose places keep their order: then-edges stay plain, and a record's edges different. Assumes nothing.
use Prim.Native.Nat.{ℕ, zero, suc, ◌+◌, ◌-◌, ◌/◌, ◌%◌, ◌≤◌, ◌<◌}
use mathlib.Core.Path.{◌≡◌, refl, ap}
use mathlib.Core.Bool.{Bool, true, false}
use native.Mathlib.Omega.{arith}
use Rattle.words.proofs.Cases.{less, same, more, tri}
use Rattle.diagram.specs.Format.{Words, then_edge, else_edge}
use Rattle.diagram.specs.Ordered.{Reduced}
use Rattle.diagram.specs.Reading.{turn}
use Rattle.diagram.proofs.Paths.{side}
use Rattle.numbering.specs.Renewal.{image, StaysPlain}
use Rattle.numbering.specs.Numbered.{Closed, KeepsOrder}
use Rattle.numbering.proofs.Renumber.{closed_side}

module _ (R W : Words) (n N M p : ℕ) (T : Reduced R n N) (fewer : N ≤ M) (C : Closed R W M) (K : KeepsOrder W p) where
  -- the images of edges to nodes before p
  image_old : (e : ℕ) → e / 2 < p → 0 < W (e / 2) → image W e ≡ W (e / 2) - 1 + e % 2
  unfolding image turn
  image_old e l k = go (e % 2) refl
    where
      go : (f : ℕ) → e % 2 ≡ f → turn f (W (e / 2) - 1) ≡ W (e / 2) - 1 + f
      go zero q = omega arith
      go (suc f) q = let a = K.plain (e / 2) l k in omega arith

  -- they keep the order of the edges
  pub image_rises : (a b : ℕ) → a / 2 < p → b / 2 < p → 0 < W (a / 2) → 0 < W (b / 2) → a < b → image W a < image W b
  image_rises a b l m i j q =
      let x = image_old a l i in
      let y = image_old b m j in
      let f = K.plain (a / 2) l i in
      let g = K.plain (b / 2) m j in
      elim (tri (a / 2) (b / 2)) [ less s ↦ omega (arith, K.rises (a / 2) (b / 2) s m i j) | same s ↦ omega (arith, ap W s) | more s ↦ absurd (omega arith) ]

  -- a node whose edges lead before p
  module _ (i : ℕ) (inside : i < N) (live : 0 < W (suc i)) (before : (b : Bool) → side R b (suc i) / 2 < p) where
    side_live : (b : Bool) → 0 < W (side R b (suc i) / 2)
    side_live b = closed_side R W M C b i (omega arith) live

    pub stays_plain : StaysPlain W (R (suc i))
    unfolding then_edge
    stays_plain = record { plain = T.then_plain i inside; stays = K.plain (then_edge R (suc i) / 2) (before true) (side_live true) }

    pub then_even : image W (then_edge R (suc i)) % 2 ≡ 0
    then_even =
        let a = T.then_plain i inside in
        let b = K.plain (then_edge R (suc i) / 2) (before true) (side_live true) in
        omega (arith, image_old (then_edge R (suc i)) (before true) (side_live true))

    pub edges_differ : image W (then_edge R (suc i)) ≡ image W (else_edge R (suc i)) → ⊥
    edges_differ q = elim (tri (then_edge R (suc i)) (else_edge R (suc i))) [
      | less s ↦ omega (arith, image_rises (then_edge R (suc i)) (else_edge R (suc i)) (before true) (before false) (side_live true) (side_live false) s)
      | same s ↦ T.differ i inside s
      | more s ↦ omega (arith, image_rises (else_edge R (suc i)) (then_edge R (suc i)) (before false) (before true) (side_live false) (side_live true) s)
    ]
