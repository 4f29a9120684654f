-- Nodes numbered height by height: their records are a reduced diagram, and fewer than the nodes where node 0 has height 0. Assumes nothing.
use Prim.Native.Nat.{ℕ, suc, ◌-◌, ◌/◌, ◌%◌, ◌≤◌, ◌<◌}
use mathlib.Core.Path.{◌≡◌, refl, sym, ap, ◌∙◌}
use mathlib.Core.Bool.{Bool, true, false, cond}
use native.Mathlib.Omega.{arith}
use Rattle.words.proofs.Cases.{less, same, more, tri}
use Rattle.diagram.specs.Format.{Words, high_field, middle_field, low_field, height, then_edge, else_edge}
use Rattle.diagram.specs.Ordered.{Reduced}
use Rattle.diagram.specs.Reading.{turn}
use Rattle.diagram.proofs.Paths.{side}
use Rattle.diagram.proofs.Edges.{turn_inj, turn_node, turn_lt}
use Rattle.diagram.proofs.Agree.{ordered_sides}
use Rattle.diagram.proofs.Members.{distinct_le}
use Rattle.numbering.specs.Renewal.{normal}
use Rattle.numbering.specs.Numbered.{Good, dropped, made}
use Rattle.numbering.proofs.Images.{turn_self, normal_high, normal_side}
use Rattle.numbering.proofs.Renumber.{lower_smaller}
use Rattle.reducing.specs.Levels.{Loose, through, Levelled}
use Rattle.reducing.proofs.Heights.{upward}

-- the node of what an edge becomes
pub through_node : (r : ℕ → ℕ) (e : ℕ) → through r e / 2 ≡ r (e / 2) / 2
unfolding through
through_node r e = turn_node (e % 2) (r (e / 2))

-- what an edge becomes, by its side
pub through_side : (r : ℕ → ℕ) (E : Bool → ℕ → ℕ) (i : ℕ) (b : Bool) → cond b (through r (E true i)) (through r (E false i)) ≡ through r (E b i)
through_side r E i true = refl
through_side r E i false = refl

module _ (g : ℕ → ℕ) (E : Bool → ℕ → ℕ) (r : ℕ → ℕ) (L : Words) (n M c h : ℕ) (D : Loose g E n M) (S : Levelled g E r L M c h) where
  -- what the edges of node i become
  abbrev new : Bool → ℕ → ℕ
  new b i = through r (E b i)

  -- they fit a field
  side_lt : (b : Bool) (i : ℕ) → i < M → 0 < g i → g i ≤ h → new b i < 536870912
  unfolding through
  side_lt b i m t q =
      let l = D.lower b i m t in
      omega (arith, turn_lt (E b i % 2) (r (E b i / 2)) 65536 (S.small (E b i / 2) (D.inside b i m t) (omega arith)))

  -- record k + 1, made of node i
  module _ (k i : ℕ) (m : i < M) (t : 0 < g i) (q : g i ≤ h) (e : L (suc k) ≡ normal (g i) (new true i) (new false i)) where
    -- its height is the node's
    pub made_height : height L (suc k) ≡ g i
    unfolding height
    made_height = ap high_field e ∙ normal_high (g i) (new true i) (new false i) (side_lt true i m t q) (side_lt false i m t q)

    -- its edges are what the node's become, turned by the flag of the first
    pub made_side : (b : Bool) → side L b (suc k) ≡ turn (new true i % 2) (cond b (new true i) (new false i))
    unfolding then_edge else_edge
    made_side b = ap (λ (z : ℕ). cond b (middle_field z) (low_field z)) e ∙ normal_side (g i) (new true i) (new false i) (side_lt true i m t q) (side_lt false i m t q) b

    -- so they lead to what the nodes of the node's edges become
    pub made_node : (b : Bool) → side L b (suc k) / 2 ≡ r (E b i / 2) / 2
    made_node b =
        ap (λ (z : ℕ). z / 2) (made_side b) ∙ turn_node (new true i % 2) (cond b (new true i) (new false i)) ∙ ap (λ (z : ℕ). z / 2) (through_side r E i b)
        ∙ through_node r (E b i)

  -- edge e leads to a record or to the sink, and not above height p
  abbrev Leads : ℕ → ℕ → Type 0
  Leads e p = (e / 2 ≤ c) × (height L (e / 2) ≤ p)

  -- a node of height 0 becomes the sink
  sink_leads : (i : ℕ) → i < M → g i ≡ 0 → Leads (r i) (g i)
  unfolding height
  sink_leads i m e = let z : r i / 2 ≡ 0 = omega (arith, S.sinks i m e) in rw z (omega arith, omega arith)

  -- a higher one becomes its edges' node, or its record
  tall_leads : (i : ℕ) → i < M → 0 < g i → g i ≤ h → Leads (r (E true i / 2)) (g (E true i / 2)) → Leads (r i) (g i)
  tall_leads i m t q a = go (S.good i m t q)
    where
      go : Good (g i) (new true i) (new false i) (suc (r i)) L c → Leads (r i) (g i)
      go (dropped p x) = let z : r i / 2 ≡ r (E true i / 2) / 2 = omega (arith, through_node r (E true i)) in let l = D.lower true i m t in rw z (a.0, omega arith)
      go (made k l p x y) = let z : r i / 2 ≡ suc k = omega arith in rw z (l, omega (arith, made_height k i m t q y))

  -- so every numbered node becomes a record or the sink, and not a taller one
  pub result_leads : (i : ℕ) → i < M → g i ≤ h → Leads (r i) (g i)
  result_leads = upward g E n M D (λ i. g i ≤ h → Leads (r i) (g i)) (λ i m e q. sink_leads i m e) (λ i m t f q. tall_leads i m t q (f true (omega (arith, D.lower true i m t))))

  -- the edges of a record lead to smaller ones, of smaller height
  side_leads : (b : Bool) (k : ℕ) → k < c → (side L b (suc k) / 2 ≤ k) × (height L (side L b (suc k) / 2) < height L (suc k))
  side_leads b k l =
      let o = S.origin k l in
      let v = o.node in
      let a = D.lower b v o.inside o.tall in
      let low = o.low in
      let s = result_leads (E b v / 2) (D.inside b v o.inside o.tall) (omega arith) in
      let p = made_node k v o.inside o.tall o.low o.makes b in
      let q : height L (side L b (suc k) / 2) < height L (suc k) = rw (p, made_height k v o.inside o.tall o.low o.makes) (omega arith) in
      (omega (arith, lower_smaller L c S.rises (side L b (suc k) / 2) (suc k) (omega arith) l q), q)

  -- the records are a reduced diagram
  pub levelled_reduced : h ≤ n → Reduced L n c
  levelled_reduced low = record {
    ordered = ordered_sides L n c (λ k l. let o = S.origin k l in let p = o.low in
        rw (made_height k o.node o.inside o.tall o.low o.makes) (o.tall, omega arith)) side_leads;
    ascends = λ k l. S.rises (suc k) l;
    then_plain = λ k l. let o = S.origin k l in
        rw (made_side k o.node o.inside o.tall o.low o.makes true, ← (turn_self (new true o.node))) (omega arith);
    differ = λ k l q. let o = S.origin k l in
        let s = made_side k o.node o.inside o.tall o.low o.makes in
        o.apart (turn_inj (new true o.node % 2) (new true o.node) (new false o.node) (sym (s true) ∙ q ∙ s false));
  }

-- where node 0 has height 0 there are fewer records than nodes: each record has a higher node of its own
pub levelled_fewer : (g : ℕ → ℕ) (E : Bool → ℕ → ℕ) (r : ℕ → ℕ) (L : Words) (M c h : ℕ) → Levelled g E r L M c h → 0 < M → g 0 ≡ 0 → c < M
levelled_fewer g E r L M c h S some sink =
    omega (
      arith,
      distinct_le c (M - 1) (λ k l. (S.origin k l).node - 1) (λ k l. omega (arith, above k l, (S.origin k l).inside))
          (λ j k l m e. let same_node : (S.origin j l).node ≡ (S.origin k m).node = omega (arith, above j l, above k m) in omega (arith, (S.origin j l).number, (S.origin k m).number, ap r same_node)),
    )
  where
    -- such a node is not node 0
    above : (k : ℕ) (l : k < c) → 0 < (S.origin k l).node
    above k l = elim (tri 0 (S.origin k l).node) [
      | less q ↦ q
      | same q ↦ absurd (omega (arith, (S.origin k l).tall, ap g q))
      | more q ↦ absurd (omega arith)
    ]
