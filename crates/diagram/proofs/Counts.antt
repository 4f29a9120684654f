-- How the setups below nodes and edges are counted: shares node by node, over gaps and flags, and counts below a bound. Assumes nothing.
use Prim.Native.Nat.{ℕ, zero, suc, ◌+◌, ◌-◌, ◌*◌, ◌/◌, ◌%◌, ◌^◌, ◌≤◌, ◌<◌}
use mathlib.Core.Path.{◌≡◌, refl, sym, ap, ap₂, ◌∙◌}
use mathlib.Core.Bool.{Bool, true, false}
use native.Mathlib.Nat.{le_refl, add-mod_left, two-pow-succ}
use native.Mathlib.Omega.{arith}
use Rattle.diagram.specs.Format.{Words, height, then_edge, else_edge}
use Rattle.diagram.specs.Meaning.{flip, holds, plain, under}
use Rattle.diagram.specs.Count.{count_below, place}
use Rattle.diagram.specs.Reading.{opposite, share}
use Rattle.diagram.proofs.CountLaws.{count_cong, count_all, count_add, count_not, count_blocks, count_gap}
use Rattle.diagram.proofs.Bits.{with_off, with_on, pow_halves}
use Rattle.diagram.specs.Ordered.{Ordered}
use Rattle.diagram.proofs.Paths.{tall_node, side_lower}
use Rattle.diagram.proofs.Local.{plain_mod, node_with}

pub count_flip : (f : ℕ) (P : ℕ → Bool) (m : ℕ) → count_below (λ x. flip f (P x)) m ≡ opposite f m (count_below P m)
unfolding flip opposite
count_flip zero P m = refl
count_flip (suc f) P m = omega (arith, count_not P m)

-- an edge's share: its node's, or the others under a flag
pub share_edge : (w : Words) (e : ℕ) → count_below (under w e) (2 ^ 63) ≡ opposite (e % 2) (2 ^ 63) (share w (e / 2))
unfolding under share
share_edge w e = count_flip (e % 2) (plain w (e / 2)) (2 ^ 63)

-- the sink permits every setup
pub share_sink : (w : Words) → share w 0 ≡ 2 ^ 63
unfolding share plain holds height
share_sink w = count_all (2 ^ 63)

module _ (w : Words) (n N : ℕ) (D : Ordered w n N) where
  -- below a node and below an edge the setups repeat from the node's height on
  plain_period : (k H x : ℕ) → k ≤ N → height w k ≤ H → plain w k (2 ^ H + x) ≡ plain w k x
  plain_period k H x m q = sym (plain_mod w n N D k H (2 ^ H + x) m q) ∙ ap (plain w k) (add-mod_left (2 ^ H) x) ∙ plain_mod w n N D k H x m q

  pub under_period : (e H x : ℕ) → e / 2 ≤ N → height w (e / 2) ≤ H → under w e (2 ^ H + x) ≡ under w e x
  unfolding under
  under_period e H x m q = ap (flip (e % 2)) (plain_period (e / 2) H x m q)

  -- a gap costs nothing: an edge's share is its count from any height H, times as many as the settings above it
  pub count_share : (e H : ℕ) → e / 2 ≤ N → height w (e / 2) ≤ H → H ≤ 63 → count_below (under w e) (2 ^ 63) ≡ 2 ^ (63 - H) * count_below (under w e) (2 ^ H)
  count_share e H m q l = count_gap (under w e) H 63 l (λ x. under_period e H x m q)

  -- ... and a node's is its place, times as many
  pub place_share : (k : ℕ) → k ≤ N → height w k ≤ 63 → share w k ≡ 2 ^ (63 - height w k) * place w k
  unfolding share place
  place_share k m l = count_gap (plain w k) (height w k) 63 l (λ x. plain_period k (height w k) x m (le_refl (height w k)))

  -- the halves of a node, at the setups below its height
  pub else_half : (k x : ℕ) → 0 < k → k ≤ N → x < 2 ^ (height w k - 1) → plain w k x ≡ under w (else_edge w k) x
  else_half k x p m l = ap (plain w k) (sym (with_off (height w k) x l)) ∙ node_with w n N D false k x p m

  pub then_half : (k x : ℕ) → 0 < k → k ≤ N → x < 2 ^ (height w k - 1) → plain w k (2 ^ (height w k - 1) + x) ≡ under w (then_edge w k) x
  then_half k x p m l = ap (plain w k) (sym (with_on (height w k) x l)) ∙ node_with w n N D true k x p m

  -- below a bound y under a node: within its else-half, or past it
  pub below_else : (k y : ℕ) → 0 < k → k ≤ N → y ≤ 2 ^ (height w k - 1) → count_below (plain w k) y ≡ count_below (under w (else_edge w k)) y
  below_else k y p m l = count_cong (plain w k) (under w (else_edge w k)) y (λ x q. else_half k x p m (omega arith))

  pub below_then : (k y : ℕ) → 0 < k → k ≤ N → y ≤ 2 ^ (height w k - 1)
      → count_below (plain w k) (2 ^ (height w k - 1) + y) ≡ count_below (under w (else_edge w k)) (2 ^ (height w k - 1)) + count_below (under w (then_edge w k)) y
  below_then k y p m l =
      let b = 2 ^ (height w k - 1) in
      count_add (plain w k) b y
      ∙ ap₂ ◌+◌ (below_else k b p m (le_refl b)) (count_cong (λ x. plain w k (b + x)) (under w (then_edge w k)) y (λ x q. then_half k x p m (omega arith)))

  -- ... and under an edge: the whole blocks of its gap, and the rest under its node
  pub below_edge : (e y : ℕ) → e / 2 ≤ N
      → count_below (under w e) y
      ≡ y / 2 ^ height w (e / 2) * count_below (under w e) (2 ^ height w (e / 2)) + opposite (e % 2) (y % 2 ^ height w (e / 2)) (count_below (plain w (e / 2)) (y % 2 ^ height w (e / 2)))
  unfolding under
  below_edge e y m =
      let b = 2 ^ height w (e / 2) in
      count_blocks (under w e) b y (λ x. under_period e (height w (e / 2)) x m (le_refl (height w (e / 2))))
      ∙ ap (λ (c : ℕ). y / b * count_below (under w e) b + c) (count_flip (e % 2) (plain w (e / 2)) (y % b))

  -- a node's share is half of its edges': the recursion by which the sheet is filled
  pub share_rec : (k : ℕ) → 0 < k → k ≤ N → height w k ≤ 63
      → share w k ≡ count_below (under w (then_edge w k)) (2 ^ 63) / 2 + count_below (under w (else_edge w k)) (2 ^ 63) / 2
  unfolding place
  share_rec k p m l =
      let h = height w k in
      let half = 2 ^ (h - 1) in
      let a = side_lower w n N D false k p m in
      let b = side_lower w n N D true k p m in
      let o : 63 - (h - 1) ≡ suc (63 - h) = omega (arith, tall_node w n N D k p m) in
      let sum : place w k ≡ count_below (under w (else_edge w k)) half + count_below (under w (then_edge w k)) half = ap (count_below (plain w k)) (pow_halves h (tall_node w n N D k p m)) ∙ below_then k half p m (le_refl half) in
      let side : (e : ℕ) → e / 2 ≤ N → height w (e / 2) ≤ h - 1 → count_below (under w e) (2 ^ 63) / 2 ≡ 2 ^ (63 - h) * count_below (under w e) half =
      λ e i j. ap (λ (c : ℕ). c / 2) (count_share e (h - 1) i j (omega arith) ∙ ap (λ (g : ℕ). 2 ^ g * count_below (under w e) half) o ∙ ap (λ (c : ℕ). c * count_below (under w e) half) (two-pow-succ (63 - h))) ∙ omega arith in
      place_share k m l ∙ ap (λ (c : ℕ). 2 ^ (63 - h) * c) sum
      ∙ omega (arith, side (then_edge w k) (omega (arith, b.node)) (omega (arith, b.low)), side (else_edge w k) (omega (arith, a.node)) (omega (arith, a.low)))
