-- A numbered diagram: what its new records are, and that they are reduced. Assumes nothing.
use Prim.Native.Nat.{ℕ, zero, suc, ◌+◌, ◌-◌, ◌*◌, ◌/◌, ◌%◌, ◌^◌, ◌≤◌, ◌<◌}
use mathlib.Core.Path.{◌≡◌, sym, ap, ◌∙◌}
use mathlib.Core.Bool.{Bool, true, false, cond}
use native.Mathlib.Nat.{le_refl}
use native.Mathlib.Omega.{arith}
use Rattle.words.proofs.Cases.{less, same, more, tri}
use Rattle.diagram.specs.Format.{Words, high_field, middle_field, low_field, height, then_edge, else_edge}
use Rattle.diagram.specs.Ordered.{Ordered, Reduced}
use Rattle.diagram.specs.Reading.{turn}
use Rattle.diagram.proofs.Paths.{side, side_node, side_height}
use Rattle.diagram.proofs.Edges.{turn_inj, turn_node}
use Rattle.numbering.specs.Renewal.{image, normal, renew}
use Rattle.numbering.specs.Numbered.{Good, dropped, made, Source, Numbered, Closed}
use Rattle.numbering.proofs.Images.{turn_self, normal_high, normal_side, image_node, image_small, image_side, renew_node}

-- what is kept keeps the node of either edge
pub closed_side : (R W : Words) (M : ℕ) → Closed R W M → (b : Bool) (k : ℕ) → k < M → 0 < W (suc k) → 0 < W (side R b (suc k) / 2)
closed_side R W M C true = C.closed_then
closed_side R W M C false = C.closed_else

-- a list of c words that ascends from word 0 on
module _ (L : Words) (c : ℕ) (rises : (i : ℕ) → i < c → L i < L (suc i)) where
  -- a later word is greater
  ascending : (i j : ℕ) → i < j → j ≤ c → L i < L j
  ascending i zero l m = absurd (omega arith)
  ascending i (suc j) l m =
      let a = rises j m in
      elim (tri i j) [ less q ↦ let b = ascending i j q (omega arith) in omega arith | same q ↦ rw q a | more q ↦ absurd (omega arith) ]

  -- a lower record has a smaller number
  pub lower_smaller : (i j : ℕ) → i ≤ c → j ≤ c → height L i < height L j → i < j
  unfolding height high_field
  lower_smaller i zero l m q = absurd (omega arith)
  lower_smaller zero (suc j) l m q = omega arith
  lower_smaller (suc i) (suc j) l m q = elim (tri i j) [
    | less r ↦ omega arith
    | same r ↦ absurd (omega (arith, ap (λ (k : ℕ). L (suc k) / 2 ^ 58) r))
    | more r ↦ absurd (omega (arith, ascending (suc j) (suc i) (omega arith) l))
  ]

module _ (R W L : Words) (n M c : ℕ) (Done : ℕ → Type 0) (D : Ordered R n M) (C : Closed R W M) (S : Numbered R W L M c Done) (few : c < 268435455) where
  -- what the edges of node k + 1 become
  abbrev new : Bool → ℕ → ℕ
  new b k = image W (side R b (suc k))

  -- images lead to the records
  image_lt : (e : ℕ) → e / 2 ≤ M → image W e < 2 * (c + 1)
  image_lt e l = image_small W e (c + 1) (omega (arith, S.small (e / 2) l))

  -- ... and fit a field
  pub side_lt : (b : Bool) (k : ℕ) → k < M → new b k < 536870912
  side_lt b k l = omega (arith, side_node R n M D b k l, image_lt (side R b (suc k)) (omega (arith, side_node R n M D b k l)))

  -- a node's new record has the node's height
  pub renew_high : (k : ℕ) → k < M → high_field (renew W (R (suc k))) ≡ height R (suc k)
  renew_high k l = ap high_field (renew_node R W k) ∙ normal_high (height R (suc k)) (new true k) (new false k) (side_lt true k l) (side_lt false k l)

  -- so it is not 0
  pub renew_positive : (k : ℕ) → k < M → 0 < renew W (R (suc k))
  renew_positive k l =
      let h = renew_high k l in
      let t = D.tall k l in
      elim (tri 0 (renew W (R (suc k)))) [ less q ↦ q | same q ↦ absurd (unfold high_field in omega arith) | more q ↦ absurd (omega arith) ]

  -- a record of the list that node v + 1 makes
  module _ (i v : ℕ) (l : v < M) (e : L (suc i) ≡ normal (height R (suc v)) (new true v) (new false v)) where
    pub made_height : height L (suc i) ≡ height R (suc v)
    unfolding height
    made_height = ap high_field e ∙ normal_high (height R (suc v)) (new true v) (new false v) (side_lt true v l) (side_lt false v l)

    pub made_side : (b : Bool) → side L b (suc i) ≡ turn (new true v % 2) (cond b (new true v) (new false v))
    unfolding then_edge else_edge
    made_side b = ap (λ (z : ℕ). cond b (middle_field z) (low_field z)) e ∙ normal_side (height R (suc v)) (new true v) (new false v) (side_lt true v l) (side_lt false v l) b

    pub made_node : (b : Bool) → side L b (suc i) / 2 ≡ new b v / 2
    made_node b = ap (λ (z : ℕ). z / 2) (made_side b) ∙ turn_node (new true v % 2) (cond b (new true v) (new false v)) ∙ ap (λ (z : ℕ). z / 2) (image_side R W (suc v) b)

  -- an image leads to a record or to the sink
  pub image_inside : (e : ℕ) → e / 2 ≤ M → image W e / 2 ≤ c
  image_inside e l = omega (arith, image_lt e l)

  module _ (all : (v : ℕ) → v < M → Done (suc v)) where
    -- a node's image is not taller
    image_height : (d v : ℕ) → v ≤ d → v ≤ M → 0 < W v → height L ((W v - 1) / 2) ≤ height R v
    image_height zero zero l m k = rw S.sink (unfold height in omega arith)
    image_height (suc d) zero l m k = rw S.sink (unfold height in omega arith)
    image_height zero (suc v) l m k = absurd (omega arith)
    image_height (suc d) (suc v) l m k =
        let a = D.then_node v m in
        go (S.good v m k (all v m)) (image_height d (t / 2) (omega arith) (omega arith) (C.closed_then v m k)) (D.then_height v m)
      where
        t : ℕ
        t = then_edge R (suc v)

        go : Good (height R (suc v)) (image W t) (image W (else_edge R (suc v))) (W (suc v)) L c → height L ((W (t / 2) - 1) / 2) ≤ height R (t / 2) → height R (t / 2) < height R (suc v)
            → height L ((W (suc v) - 1) / 2) ≤ height R (suc v)
        go (dropped q x) i b = let e : (W (suc v) - 1) / 2 ≡ (W (t / 2) - 1) / 2 = omega (arith, image_node W t) in rw e (omega arith)
        go (made j l q x y) i b = let e : (W (suc v) - 1) / 2 ≡ suc j = omega arith in rw e (omega (arith, made_height j v m y))

    -- the edges of a record lead to smaller ones, of smaller height
    module _ (b : Bool) (i : ℕ) (l : i < c) where
      s : Source R W L M Done i
      s = S.source i l

      abbrev e : ℕ
      e = side R b (suc s.node)

      inside : e / 2 ≤ M
      inside = let a = s.inside in omega (arith, side_node R n M D b s.node s.inside)

      side_lower : height L (side L b (suc i) / 2) < height L (suc i)
      side_lower =
          let k = closed_side R W M C b s.node s.inside s.live in
          rw (made_node i s.node s.inside s.makes b, made_height i s.node s.inside s.makes, image_node W e)
          (omega (arith, image_height (e / 2) (e / 2) (le_refl (e / 2)) inside k, side_height R n M D b s.node s.inside))

      side_below : side L b (suc i) / 2 ≤ i
      side_below =
          let q : side L b (suc i) / 2 ≤ c = rw (made_node i s.node s.inside s.makes b) (image_inside e inside) in
          omega (arith, lower_smaller L c S.rises (side L b (suc i) / 2) (suc i) q l side_lower)

    pub renumber_reduced : Reduced L n c
    renumber_reduced = record {
      ordered = record {
        tall = λ i l. let s = S.source i l in rw (made_height i s.node s.inside s.makes) (D.tall s.node s.inside);
        low = λ i l. let s = S.source i l in rw (made_height i s.node s.inside s.makes) (D.low s.node s.inside);
        then_node = λ i l. side_below true i l;
        else_node = λ i l. side_below false i l;
        then_height = λ i l. side_lower true i l;
        else_height = λ i l. side_lower false i l;
      };
      ascends = λ i l. S.rises (suc i) l;
      then_plain = λ i l. let s = S.source i l in rw (made_side i s.node s.inside s.makes true, ← (turn_self (new true s.node))) (omega arith);
      differ = λ i l q. let s = S.source i l in
          s.apart (turn_inj (new true s.node % 2) (new true s.node) (new false s.node)
          (sym (made_side i s.node s.inside s.makes true) ∙ q ∙ made_side i s.node s.inside s.makes false));
    }
