-- The cofactors of an edge: what it permits with one setting on or off. Assumes nothing.
use Prim.Native.Nat.{ℕ, zero, suc, ◌+◌, ◌-◌, ◌/◌, ◌%◌, ◌^◌, ◌≤◌, ◌<◌}
use mathlib.Core.Path.{◌≡◌, refl, sym, ap, ap₂, subst, ◌∙◌}
use mathlib.Core.Bool.{Bool, true, false, cond}
use native.Mathlib.Nat.{lt_of_lt_of_le, mod-lt}
use native.Mathlib.Omega.{arith}
use lib.Dec.{ltb}
use lib.Pow.{pow_pos, pow_mono}
use borrow.Author.Tests.{ltb-true, ltb-false, lt-ltb, le-ltb}
use Rattle.diagram.specs.Format.{Words, height}
use Rattle.diagram.specs.Meaning.{bit, branch, flip, plain, under}
use Rattle.diagram.specs.Count.{count_below}
use Rattle.diagram.specs.Ordered.{Ordered, Reduced}
use Rattle.diagram.specs.Reading.{turn, cofactor}
use Rattle.diagram.proofs.CountLaws.{count_cong, count_add}
use Rattle.diagram.proofs.Bits.{with_bit, with_mod, with_off, with_on, pow_halves}
use Rattle.diagram.proofs.Paths.{side, side_lower, plain_branch}
use Rattle.diagram.proofs.Local.{under_mod, under_agree, node_with}
use Rattle.diagram.proofs.Edges.{turn_node, turn_inj, turn_under}

-- a node of some height is not the sink
pub no_sink : (w : Words) (k : ℕ) → 0 < height w k → 0 < k
unfolding height
no_sink w zero l = l
no_sink w (suc k) l = omega arith

-- the cofactors of edge e as code finds them, where node v is its node, of height g
module _ (w : Words) (e h v g : ℕ) (v-is : v ≡ e / 2) (g-is : g ≡ height w v) where
  at : g ≡ height w (e / 2)
  at = g-is ∙ ap (height w) v-is

  pub passes_below : g < h → (b : Bool) → e ≡ cofactor w h b e
  unfolding cofactor
  passes_below l b = rw (lt-ltb (height w (e / 2)) h (omega (arith, at)))

  pub goes_on : h ≤ g → (b : Bool) (a c : ℕ) → a ≡ side w b v → c ≡ turn (e % 2) a → c ≡ cofactor w h b e
  unfolding cofactor
  goes_on l b a c a-is q = q ∙ rw (le-ltb (height w (e / 2)) h (omega (arith, at)), a-is, v-is)

module _ (w : Words) (n N : ℕ) (D : Ordered w n N) (e h : ℕ) (inside : e / 2 ≤ N) (low : height w (e / 2) ≤ h) (some : 0 < h) where
  -- a cofactor leads to no greater node, below height h
  pub cofactor_low : (b : Bool) → (cofactor w h b e / 2 ≤ e / 2) × (height w (cofactor w h b e / 2) < h)
  unfolding cofactor
  cofactor_low b = go (ltb (height w (e / 2)) h) refl
    where
      go : (c : Bool) → ltb (height w (e / 2)) h ≡ c
          → (cond c e (turn (e % 2) (side w b (e / 2))) / 2 ≤ e / 2) × (height w (cond c e (turn (e % 2) (side w b (e / 2))) / 2) < h)
      go true q = (omega arith, ltb-true (height w (e / 2)) h q)
      go false q =
          let p = ltb-false (height w (e / 2)) h q in
          let l = side_lower w n N D b (e / 2) (no_sink w (e / 2) (omega arith)) inside in
          rw (turn_node (e % 2) (side w b (e / 2))) (omega (arith, l.node), omega (arith, l.low))

  -- an edge permits a setup exactly if its cofactor by the setup's own setting does
  pub cofactor_own : (x : ℕ) → under w e x ≡ under w (cofactor w h (bit h x) e) x
  unfolding cofactor under branch
  cofactor_own x = go (ltb (height w (e / 2)) h) refl
    where
      go : (c : Bool) → ltb (height w (e / 2)) h ≡ c → under w e x ≡ under w (cond c e (turn (e % 2) (side w (bit h x) (e / 2)))) x
      go true q = refl
      go false q =
          let p = ltb-false (height w (e / 2)) h q in
          let t : height w (e / 2) ≡ h = omega arith in
          ap (flip (e % 2)) (subst (λ (g : ℕ). plain w (e / 2) x ≡ under w (side w (bit g x) (e / 2)) x) t (plain_branch w n N D (e / 2) x (no_sink w (e / 2) (omega arith)) inside))
          ∙ sym (turn_under w (e % 2) (side w (bit h x) (e / 2)) x)

  -- with the setting of height h on or off, an edge permits what its cofactor does
  pub cofactor_with : (b : Bool) (x : ℕ) → under w e (with_bit b h x) ≡ under w (cofactor w h b e) x
  unfolding cofactor under
  cofactor_with b x = go (ltb (height w (e / 2)) h) refl
    where
      go : (c : Bool) → ltb (height w (e / 2)) h ≡ c → under w e (with_bit b h x) ≡ under w (cond c e (turn (e % 2) (side w b (e / 2)))) x
      go true q = under_agree w n N D e (h - 1) (with_bit b h x) x inside (omega (arith, ltb-true (height w (e / 2)) h q)) (with_mod b h x)
      go false q =
          let p = ltb-false (height w (e / 2)) h q in
          let t : height w (e / 2) ≡ h = omega arith in
          let a = node_with w n N D b (e / 2) x (no_sink w (e / 2) (omega arith)) inside in
          ap (flip (e % 2)) (subst (λ (g : ℕ). plain w (e / 2) (with_bit b g x) ≡ under w (side w b (e / 2)) x) t a) ∙ sym (turn_under w (e % 2) (side w b (e / 2)) x)

  -- the half with the setting off, and the half with it on
  pub cofactor_off : (x : ℕ) → x < 2 ^ (h - 1) → under w (cofactor w h false e) x ≡ under w e x
  cofactor_off x l = sym (cofactor_with false x) ∙ ap (under w e) (with_off h x l)

  pub cofactor_on : (x : ℕ) → x < 2 ^ (h - 1) → under w (cofactor w h true e) x ≡ under w e (2 ^ (h - 1) + x)
  cofactor_on x l = sym (cofactor_with true x) ∙ ap (under w e) (with_on h x l)

  -- so its setups are those of its two cofactors
  pub cofactor_counts : count_below (under w e) (2 ^ h) ≡ count_below (under w (cofactor w h false e)) (2 ^ (h - 1)) + count_below (under w (cofactor w h true e)) (2 ^ (h - 1))
  cofactor_counts =
      ap (count_below (under w e)) (pow_halves h some)
      ∙ count_add (under w e) (2 ^ (h - 1)) (2 ^ (h - 1))
      ∙ sym (ap₂ ◌+◌ (count_cong (under w (cofactor w h false e)) (under w e) (2 ^ (h - 1)) cofactor_off) (count_cong (under w (cofactor w h true e)) (λ x. under w e (2 ^ (h - 1) + x)) (2 ^ (h - 1)) cofactor_on))

-- an edge that permits what edge e does with all settings above height h off, and looks at none of these
pub record Lowered (w : Words) (N e h : ℕ) : Type 0 where
  pub edge : ℕ
  pub inside : edge / 2 ≤ N
  pub low : height w (edge / 2) ≤ h
  pub means : (x : ℕ) → under w edge x ≡ under w e (x % 2 ^ h)

-- there is one: a cofactor at each height above h, d of them
pub lowered : (w : Words) (n N : ℕ) → Ordered w n N → (h d e : ℕ) → e / 2 ≤ N → height w (e / 2) ≤ h + d → Lowered w N e h
lowered w n N D h zero e l q = record { edge = e; inside = l; low = omega arith; means = λ x. sym (under_mod w n N D e h x l (omega arith)) }
lowered w n N D h (suc d) e l q =
    let H = h + suc d in
    let a = cofactor_low w n N D e H l q (omega arith) false in
    let b = lowered w n N D h d (cofactor w H false e) (omega arith) (omega arith) in
    record {
      edge = b.edge;
      inside = b.inside;
      low = b.low;
      means = λ x. b.means x ∙ cofactor_off w n N D e H l q (omega arith) (x % 2 ^ h) (lt_of_lt_of_le (mod-lt x (pow_pos h)) (pow_mono (omega arith)));
    }

-- in a reduced diagram the cofactors of an edge by its own node's setting differ
pub cofactors_differ : (w : Words) (n N : ℕ) → Reduced w n N → (e h : ℕ) → e / 2 ≤ N → h ≡ height w (e / 2) → 0 < h → cofactor w h true e ≡ cofactor w h false e → ⊥
unfolding cofactor
cofactors_differ w n N R e h inside h-is some q = go (e / 2) inside (no_sink w (e / 2) (omega (arith, h-is))) (turn_inj (e % 2) _ _ (sym (own true) ∙ q ∙ own false))
  where
    own : (b : Bool) → cofactor w h b e ≡ turn (e % 2) (side w b (e / 2))
    own b = rw (le-ltb (height w (e / 2)) h (omega (arith, h-is)))

    go : (k : ℕ) → k ≤ N → 0 < k → side w true k ≡ side w false k → ⊥
    go zero l p s = omega arith
    go (suc k) l p s = R.differ k l s
