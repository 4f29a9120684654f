-- What edges and records become under a map: their nodes, their fields and their bounds. Assumes nothing.
use Prim.Native.Nat.{ℕ, zero, suc, ◌+◌, ◌-◌, ◌*◌, ◌/◌, ◌%◌, ◌<◌}
use mathlib.Core.Path.{◌≡◌, refl, ap, ◌∙◌}
use mathlib.Core.Bool.{Bool, true, false, cond, not-not}
use native.Mathlib.Omega.{arith}
use Rattle.words.proofs.Stores.{Updated}
use Rattle.diagram.specs.Format.{Words, high_field, middle_field, low_field, height, then_edge, else_edge}
use Rattle.diagram.specs.Meaning.{bit, branch, flip, under}
use Rattle.diagram.specs.Ordered.{Ordered}
use Rattle.diagram.specs.Reading.{turn}
use Rattle.diagram.proofs.Paths.{side, plain_step}
use Rattle.diagram.proofs.Edges.{turn_node, turn_lt, turn_under}
use Rattle.diagram.proofs.Fields.{record_high, record_middle, record_low}
use Rattle.numbering.specs.Renewal.{image, normal, renew}

-- an edge turned by its own flag is plain
pub turn_self : (t : ℕ) → 2 * (t / 2) ≡ turn (t % 2) t
unfolding turn
turn_self t = go (t % 2) refl
  where
    go : (f : ℕ) → t % 2 ≡ f → 2 * (t / 2) ≡ turn f t
    go zero q = omega arith
    go (suc f) q = omega arith

-- a record with the flag of its first edge taken out of both: its height, and either edge turned by that flag
module _ (h t e : ℕ) (lt : t < 536870912) (le : e < 536870912) where
  pub normal_high : high_field (normal h t e) ≡ h
  unfolding normal
  normal_high = record_high h (2 * (t / 2)) (turn (t % 2) e) (omega arith) (turn_lt (t % 2) e 268435456 le)

  pub normal_side : (b : Bool) → cond b (middle_field (normal h t e)) (low_field (normal h t e)) ≡ turn (t % 2) (cond b t e)
  unfolding normal
  normal_side true = record_middle h (2 * (t / 2)) (turn (t % 2) e) (omega arith) (turn_lt (t % 2) e 268435456 le) ∙ turn_self t
  normal_side false = record_low h (2 * (t / 2)) (turn (t % 2) e) (omega arith) (turn_lt (t % 2) e 268435456 le)

-- the node of an image
pub image_node : (W : Words) (e : ℕ) → image W e / 2 ≡ (W (e / 2) - 1) / 2
unfolding image
image_node W e = turn_node (e % 2) (W (e / 2) - 1)

-- images stay below a limit of edges
pub image_small : (W : Words) (e m : ℕ) → W (e / 2) - 1 < 2 * m → image W e < 2 * m
unfolding image
image_small W e m l = turn_lt (e % 2) (W (e / 2) - 1) m l

-- the image of an edge by its side
pub image_side : (R W : Words) (v : ℕ) (b : Bool) → cond b (image W (then_edge R v)) (image W (else_edge R v)) ≡ image W (side R b v)
image_side R W v true = refl
image_side R W v false = refl

-- a node's new record
pub renew_node : (R W : Words) (v : ℕ) → renew W (R (suc v)) ≡ normal (height R (suc v)) (image W (then_edge R (suc v))) (image W (else_edge R (suc v)))
unfolding renew height then_edge else_edge
renew_node R W v = refl

-- an edge to a node whose place does not change
pub image_as : (W W' : Words) (e : ℕ) → W' (e / 2) ≡ W (e / 2) → image W' e ≡ image W e
unfolding image
image_as W W' e q = rw q

pub image_same : (W W' : Words) (k x : ℕ) → Updated W W' k x → (e : ℕ) → (e / 2 ≡ k → ⊥) → image W' e ≡ image W e
image_same W W' k x U e n = image_as W W' e (U.other (e / 2) n)

-- a record whose edges' nodes keep their places
pub renew_as : (R W W' : Words) (v : ℕ) → ((b : Bool) → W' (side R b v / 2) ≡ W (side R b v / 2)) → renew W' (R v) ≡ renew W (R v)
unfolding renew then_edge else_edge
renew_as R W W' v s = rw (image_as W W' (middle_field (R v)) (s true), image_as W W' (low_field (R v)) (s false))

-- turned twice
pub flip_twice : (f : ℕ) → (b : Bool) → flip f (flip f b) ≡ b
unfolding flip
flip_twice zero b = refl
flip_twice (suc f) b = not-not b

-- a node whose edges are t and e, both turned by the flag of t: with that flag, it permits what the edge taken does
pub node_turned : (w : Words) (n M : ℕ) → Ordered w n M → (h t e k : ℕ) → k < M → height w (suc k) ≡ h → ((b : Bool) → side w b (suc k) ≡ turn (t % 2) (cond b t e))
    → (x : ℕ) → under w (2 * suc k + t % 2) x ≡ under w (cond (bit h x) t e) x
unfolding under branch
node_turned w n M D h t e k l a s x =
    let f : (2 * suc k + t % 2) % 2 ≡ t % 2 = omega arith in
    let g : (2 * suc k + t % 2) / 2 ≡ suc k = omega arith in
    rw (f, g)
    (ap (flip (t % 2)) (plain_step w n M D k x l ∙ ap (λ (i : ℕ). under w (side w (bit i x) (suc k)) x) a ∙ ap (λ (i : ℕ). under w i x) (s (bit h x)) ∙ turn_under w (t % 2) (cond (bit h x) t e) x)
    ∙ flip_twice (t % 2) (under w (cond (bit h x) t e) x))
