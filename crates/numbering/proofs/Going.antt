-- Numbering node by node, each the least of what is left. Assumes nothing.
use Prim.Native.Nat.{ℕ, zero, suc, ◌+◌, ◌*◌, ◌/◌, ◌%◌, ◌≤◌, ◌<◌}
use mathlib.Core.Path.{◌≡◌, sym, ap, subst, ◌∙◌}
use mathlib.Core.Logic.{inl, inr}
use mathlib.Core.Bool.{Bool, true, false}
use native.Mathlib.Nat.{le_refl}
use native.Mathlib.Omega.{arith}
use Rattle.words.proofs.Cases.{less, same, more, tri}
use Rattle.words.proofs.Stores.{Updated, update, update_is}
use Rattle.diagram.specs.Format.{Words, high_field, height, then_edge, else_edge}
use Rattle.diagram.specs.Ordered.{Ordered}
use Rattle.diagram.proofs.Paths.{side, side_height}
use Rattle.numbering.specs.Renewal.{image, renew}
use Rattle.numbering.specs.Numbered.{Numbered, Closed, Alike, Going}
use Rattle.numbering.proofs.Images.{image_same, renew_node}
use Rattle.numbering.proofs.Renumber.{renew_high, renew_positive}
use Rattle.numbering.proofs.Assign.{Adds, assign_dropped, assign_repeated, assign_new}

-- the place x, the count c' and the last record last' after a node whose edges become t and e and whose record is z
pub data Assigned (t e z c last x c' last' : ℕ) : Type 0 where
  equal_edges : t ≡ e → x ≡ suc t → c' ≡ c → last' ≡ last → Assigned t e z c last x c' last'
  repeated : (t ≡ e → ⊥) → z ≡ last → x ≡ suc (2 * c + t % 2) → c' ≡ c → last' ≡ z → Assigned t e z c last x c' last'
  another : (t ≡ e → ⊥) → (z ≡ last → ⊥) → x ≡ suc (2 * suc c + t % 2) → c' ≡ suc c → last' ≡ z → Assigned t e z c last x c' last'

-- a replaced place that was kept, and is, leaves the same nodes kept
pub updated_alike : (W W' : Words) (v x : ℕ) → Updated W W' v x → 0 < W v → 0 < x → Alike W W'
updated_alike W W' v x U l m = record {
  up = λ u k. elim (tri u v) [ less q ↦ rw (U.other u (λ p. omega arith)) k | same q ↦ rw (q, U.here) m | more q ↦ rw (U.other u (λ p. omega arith)) k ];
  down = λ u k. elim (tri u v) [ less q ↦ rw (U.other u (λ p. omega arith)) at k | same q ↦ rw q l | more q ↦ rw (U.other u (λ p. omega arith)) at k ];
}

-- ... and a closed diagram closed
closed_alike : (R W W' : Words) (M : ℕ) → Alike W W' → Closed R W M → Closed R W' M
closed_alike R W W' M A C = record {
  closed_then = λ u l k. A.up (then_edge R (suc u) / 2) (C.closed_then u l (A.down (suc u) k));
  closed_else = λ u l k. A.up (else_edge R (suc u) / 2) (C.closed_else u l (A.down (suc u) k));
}

-- what is done leads to what is done
below_side : (R W : Words) (M c last : ℕ) (Done : ℕ → Type 0) → Going R W M c last Done → (u : ℕ) → u < M → 0 < W (suc u) → Done (suc u) → (b : Bool) → Done (side R b (suc u) / 2)
below_side R W M c last Done G u l k d true = (G.below u l k d).0
below_side R W M c last Done G u l k d false = (G.below u l k d).1

-- node v + 1, the least of what is left, gets its place
module _ (R W W' : Words) (n M c last v x c' last' : ℕ) (Done Done' : ℕ → Type 0) (D : Ordered R n M) (G : Going R W M c last Done) (few : c < 268435454)
    (inside : v < M) (live : 0 < W (suc v)) (U : Updated W W' (suc v) x) (A : Adds Done Done' (suc v))
    (ready : (b : Bool) → Done (side R b (suc v) / 2)) (least : (u : ℕ) → u < M → 0 < W (suc u) → (Done (suc u) → ⊥) → renew W (R (suc v)) ≤ renew W (R (suc u))) where
  S : Numbered R W G.list M c Done
  S = G.numbered

  abbrev z : ℕ
  z = renew W (R (suc v))

  -- no node that is done leads to it
  alone : (u : ℕ) → u < M → 0 < W (suc u) → Done (suc u) → (b : Bool) → side R b (suc u) / 2 ≡ suc v → ⊥
  alone u l k d b q = A.fresh (subst (λ (a : ℕ). Done a) q (below_side R W M c last Done G u l k d b))

  -- its record has its height
  high : high_field z ≡ height R (suc v)
  high = renew_high R W G.list n M c Done D G.closed S (omega arith) v inside

  -- what is left has records that are not below the one of v + 1
  module _ (list' : Words) (c'' last'' : ℕ) (S' : Numbered R W' list' M c'' Done') (few' : c'' < 268435455) (some : 0 < x) (latest' : list' c'' ≡ last'') (not-above : last'' ≤ z) where
    K : Alike W W'
    K = updated_alike W W' (suc v) x U live some

    below' : (u : ℕ) → u < M → 0 < W' (suc u) → Done' (suc u) → (b : Bool) → Done' (side R b (suc u) / 2)
    below' u l k d b = elim (A.only (suc u) d) [
      | inl q ↦ let e : u ≡ v = omega arith in rw e (A.old (side R b (suc v) / 2) (ready b))
      | inr q ↦ A.old (side R b (suc u) / 2) (below_side R W M c last Done G u l (K.down (suc u) k) q b)
    ]

    ahead' : (u : ℕ) → u < M → 0 < W' (suc u) → (Done' (suc u) → ⊥) → last'' ≤ renew W' (R (suc u))
    ahead' u l k d =
        elim (tri (height R (suc v)) (height R (suc u))) [
          | less q ↦ taller high (renew_high R W' list' n M c'' Done' D (closed_alike R W W' M K G.closed) S' few' u l) q
          | same q ↦ stays (omega arith)
          | more q ↦ stays (omega arith)
        ]
      where
        -- a node that is not higher does not lead to v + 1, and keeps its record
        stays : height R (suc u) ≤ height R (suc v) → last'' ≤ renew W' (R (suc u))
        stays q =
            let own : (b : Bool) → image W' (side R b (suc u)) ≡ image W (side R b (suc u)) =
            λ b. image_same W W' (suc v) x U (side R b (suc u)) (λ e. omega (arith, ap (height R) e, side_height R n M D b u l)) in
            rw (renew_node R W' u, own true, own false, ← (renew_node R W u)) (omega (arith, least u l (K.down (suc u) k) (λ a. d (A.old (suc u) a)), not-above))

        taller : {y : ℕ} → high_field z ≡ height R (suc v) → high_field y ≡ height R (suc u) → height R (suc v) < height R (suc u) → last'' ≤ y
        taller {y} p r q = let m = not-above in let s : z < y = unfold high_field in omega arith in omega arith

    goes : c' ≡ c'' → last' ≡ last'' → Going R W' M c' last' Done'
    goes a b = rw (a, b) (record {
      list = list';
      numbered = S';
      latest = latest';
      closed = closed_alike R W W' M K G.closed;
      below = λ u l k d. (below' u l k d true, below' u l k d false);
      ahead = ahead';
    })

  -- whichever place it is
  pub step : Assigned (image W (then_edge R (suc v))) (image W (else_edge R (suc v))) z c last x c' last' → Going R W' M c' last' Done'
  step (equal_edges q y a b) =
      goes G.list c last (assign_dropped R W W' G.list n M c v x Done Done' D S inside U A alone q y) (omega arith) (omega arith) G.latest (G.ahead v inside live A.fresh) a b
  step (repeated q p y a b) =
      goes G.list c z (assign_repeated R W W' G.list n M c v x Done Done' D S inside U A alone q (nonzero c (G.latest ∙ sym p)) (G.latest ∙ sym p ∙ renew_node R W v) y)
      (omega arith) (omega arith) (G.latest ∙ sym p) (le_refl z) a b
    where
      nonzero : (i : ℕ) → G.list i ≡ z → 0 < i
      nonzero zero e = absurd (omega (arith, renew_positive R W G.list n M c Done D G.closed S (omega arith) v inside, S.base))
      nonzero (suc i) e = omega arith
  step (another q p y a b) =
      goes (update G.list (suc c) z) (suc c) z (rw (renew_node R W v) (assign_new R W W' G.list n M c v x Done Done' D S inside U A alone q (rw (← (renew_node R W v)) above) y))
      (omega arith) (omega arith) (update_is G.list (suc c) z).here (le_refl z) a b
    where
      above : G.list c < z
      above = let a = G.ahead v inside live A.fresh in elim (tri (G.list c) z) [ less r ↦ r | same r ↦ absurd (p (sym r ∙ G.latest)) | more r ↦ absurd (omega (arith, G.latest)) ]
