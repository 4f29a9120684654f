-- A node looks only at the settings below its height: its meaning at a setup with one setting fixed. Assumes nothing.
use Prim.Native.Nat.{ℕ, zero, suc, ◌-◌, ◌/◌, ◌%◌, ◌^◌, ◌≤◌, ◌<◌}
use mathlib.Core.Path.{◌≡◌, refl, sym, ap, ◌∙◌}
use mathlib.Core.Bool.{Bool, true}
use native.Mathlib.Nat.{le_refl}
use native.Mathlib.Omega.{arith}
use Rattle.diagram.specs.Format.{Words, height, then_edge}
use Rattle.diagram.specs.Meaning.{branch, flip, holds, plain, under}
use Rattle.diagram.specs.Ordered.{Ordered, Reduced}
use Rattle.diagram.proofs.Paths.{side, side_node, side_height, branch_node, branch_height, plain_step}
use Rattle.diagram.proofs.Bits.{bit_mod, with_bit, bit_with, with_mod, bit_ones}

module _ (w : Words) (n N : ℕ) (D : Ordered w n N) where
  -- the settings of weight 2 ^ H and above do not matter, where H is at least the node's height
  pub plain_mod : (k H x : ℕ) → k ≤ N → height w k ≤ H → plain w k (x % 2 ^ H) ≡ plain w k x
  unfolding plain holds under branch height
  plain_mod k H x = go k k (le_refl k)
    where
      go : (d k : ℕ) → k ≤ d → k ≤ N → height w k ≤ H → plain w k (x % 2 ^ H) ≡ plain w k x
      go zero zero l m q = refl
      go (suc d) zero l m q = refl
      go zero (suc k) l m q = absurd (omega arith)
      go (suc d) (suc k) l m q =
          let b : branch w (suc k) (x % 2 ^ H) ≡ branch w (suc k) x = rw (bit_mod (height w (suc k)) H x (D.tall k m) q) in
          let e = branch w (suc k) x in
          let s : e / 2 ≤ k = branch_node w n N D k x m in
          let t : height w (e / 2) < height w (suc k) = branch_height w n N D k x m in
          plain_step w n N D k (x % 2 ^ H) m
          ∙ ap (λ a. under w a (x % 2 ^ H)) b
          ∙ ap (flip (e % 2)) (go d (e / 2) (omega arith) (omega arith) (omega arith))
          ∙ sym (plain_step w n N D k x m)

  pub under_mod : (e H x : ℕ) → e / 2 ≤ N → height w (e / 2) ≤ H → under w e (x % 2 ^ H) ≡ under w e x
  unfolding under
  under_mod e H x m q = ap (flip (e % 2)) (plain_mod (e / 2) H x m q)

  -- two setups that agree below H
  pub under_agree : (e H x y : ℕ) → e / 2 ≤ N → height w (e / 2) ≤ H → x % 2 ^ H ≡ y % 2 ^ H → under w e x ≡ under w e y
  under_agree e H x y m q r = sym (under_mod e H x m q) ∙ ap (under w e) r ∙ under_mod e H y m q

  -- a half of a node, where its own setting is on or off, is what the edge of that side permits
  pub plain_with : (b : Bool) (k x : ℕ) → k < N → plain w (suc k) (with_bit b (height w (suc k)) x) ≡ under w (side w b (suc k)) x
  unfolding branch
  plain_with b k x m =
      let h = height w (suc k) in
      let p = side_node w n N D b k m in
      let q = side_height w n N D b k m in
      plain_step w n N D k (with_bit b h x) m
      ∙ ap (λ c. under w (side w c (suc k)) (with_bit b h x)) (bit_with b h x)
      ∙ under_agree (side w b (suc k)) (h - 1) (with_bit b h x) x (omega arith) (omega arith) (with_mod b h x)

  -- the same of a node by its own number
  pub node_with : (b : Bool) (k x : ℕ) → 0 < k → k ≤ N → plain w k (with_bit b (height w k) x) ≡ under w (side w b k) x
  node_with b zero x p l = absurd (omega arith)
  node_with b (suc k) x p l = plain_with b k x l

-- the setup with every setting on passes then-edges only, whose flags are clear
pub plain_ones : (w : Words) (n N : ℕ) → Reduced w n N → (k : ℕ) → k ≤ N → plain w k (2 ^ n - 1) ≡ true
unfolding plain holds under branch flip height
plain_ones w n N R k = go k k (le_refl k)
  where
    D : Ordered w n N
    D = R.ordered

    go : (d k : ℕ) → k ≤ d → k ≤ N → plain w k (2 ^ n - 1) ≡ true
    go zero zero l m = refl
    go (suc d) zero l m = refl
    go zero (suc k) l m = absurd (omega arith)
    go (suc d) (suc k) l m =
        let t = then_edge w (suc k) in
        let s : t / 2 ≤ k = D.then_node k m in
        plain_step w n N D k (2 ^ n - 1) m
        ∙ ap (λ c. under w (side w c (suc k)) (2 ^ n - 1)) (bit_ones (height w (suc k)) n (D.tall k m) (D.low k m))
        ∙ ap (λ f. flip f (plain w (t / 2) (2 ^ n - 1))) (R.then_plain k m)
        ∙ go d (t / 2) (omega arith) (omega arith)
