-- A node gets its place in the map, in the terms of the code. Assumes nothing.
use Prim.Native.Nat.{ℕ, zero, suc, ◌+◌, ◌*◌, ◌/◌, ◌%◌, ◌≤◌, ◌<◌}
use mathlib.Core.Path.{◌≡◌, sym, ap, ◌∙◌}
use mathlib.Core.Logic.{inl, inr}
use mathlib.Core.Bool.{Bool, true, false}
use mathlib.Core.List.{List}
use native.Mathlib.Omega.{arith}
use lib.ListN.{length}
use Rattle.words.specs.Words.{word_at}
use Rattle.words.proofs.Cases.{less, same, more, tri}
use Rattle.words.proofs.Stores.{Updated, put_updated, length-put}
use Rattle.diagram.specs.Format.{Words, middle_field, low_field, height, then_edge, else_edge}
use Rattle.diagram.specs.Ordered.{Ordered}
use Rattle.diagram.specs.Reading.{turn}
use Rattle.diagram.proofs.Paths.{side}
use Rattle.diagram.proofs.Edges.{turn_inj}
use Rattle.numbering.specs.Renewal.{image, renew, IsKey, same_record, new_record, Given, given_edge, given_number, Gave, skipped, stored}
use Rattle.numbering.specs.Numbered.{Alike, Going}
use Rattle.numbering.proofs.Images.{normal_side, renew_node}
use Rattle.numbering.proofs.Renumber.{renew_positive, side_lt}
use Rattle.numbering.proofs.Assign.{Adds}
use Rattle.numbering.proofs.Going.{Assigned, equal_edges, repeated, another, updated_alike, step}
use Rattle.numbering.proofs.Finish.{pass, alike_same}

-- node v is left out, and nothing changes; or it gets the place x, which is right
pub data Placed (R W W' : Words) (v c last c' last' : ℕ) : Type 0 where
  left_out : W v ≡ 0 → W' ≡ W → c' ≡ c → last' ≡ last → Placed R W W' v c last c' last'
  placed : (x : ℕ) → 0 < W v → Updated W W' v x → Assigned (image W (then_edge R v)) (image W (else_edge R v)) (renew W (R v)) c last x c' last' → Placed R W W' v c last c' last'

-- there is one record more, or none
assigned_count : {t e z c last x c' last' : ℕ} → Assigned t e z c last x c' last' → (c' ≤ c + 1) × (0 < x)
assigned_count (equal_edges a b d f) = (omega arith, omega arith)
assigned_count (repeated a b d f g) = (omega arith, omega arith)
assigned_count (another a b d f g) = (omega arith, omega arith)

-- the same nodes are kept, and the places of other nodes stay
pub placed_alike : {R W W' : Words} {v c last c' last' : ℕ} → Placed R W W' v c last c' last' → Alike W W'
placed_alike {W = W} (left_out z e a b) = rw e (alike_same W)
placed_alike {W = W} {W' = W'} {v = v} (placed x l U A) = updated_alike W W' v x U l (assigned_count A).1

pub placed_other : {R W W' : Words} {v c last c' last' : ℕ} → Placed R W W' v c last c' last' → (u : ℕ) → (u ≡ v → ⊥) → W' u ≡ W u
placed_other (left_out z e a b) u n = ap (λ (w : Words). w u) e
placed_other (placed x l U A) u n = U.other u n

-- at most one record is new
pub placed_count : {R W W' : Words} {v c last c' last' : ℕ} → Placed R W W' v c last c' last' → c' ≤ c + 1
placed_count (left_out z e a b) = omega arith
placed_count (placed x l U A) = (assigned_count A).0

-- the map's length stays
pub gave_length : (s s' : List ℕ) (v word flag c last c' last' : ℕ) → 8 * v + 8 ≤ length s → Gave s s' v word flag c last c' last' → length s' ≡ length s
gave_length s s' v word flag c last c' last' l (skipped z e a b) = ap length e
gave_length s s' v word flag c last c' last' l (stored x z f e g) = ap length e ∙ length-put s v x l

module _ (R : Words) (n M c last : ℕ) (Done : ℕ → Type 0) (D : Ordered R n M) (few : c < 268435454) where
  -- what is given is right
  module _ (W : Words) (G : Going R W M c last Done) (v word flag x c' last' : ℕ) (l : v < M) (w : word ≡ renew W (R (suc v))) (f : flag ≡ image W (then_edge R (suc v)) % 2) where
    abbrev t : ℕ
    t = image W (then_edge R (suc v))

    abbrev o : ℕ
    o = image W (else_edge R (suc v))

    lt : (b : Bool) → image W (side R b (suc v)) < 536870912
    lt b = side_lt R W G.list n M c Done D G.closed G.numbered (omega arith) b v l

    middle : middle_field word ≡ turn (t % 2) t
    middle = ap middle_field (w ∙ renew_node R W v) ∙ normal_side (height R (suc v)) t o (lt true) (lt false) true

    low : low_field word ≡ turn (t % 2) o
    low = ap low_field (w ∙ renew_node R W v) ∙ normal_side (height R (suc v)) t o (lt true) (lt false) false

    plain : (k : ℕ) → t % 2 ≡ k → turn k t + k ≡ t
    unfolding turn
    plain zero q = omega arith
    plain (suc k) q = omega arith

    differ : (middle_field word ≡ low_field word → ⊥) → t ≡ o → ⊥
    differ k q = k (middle ∙ ap (turn (t % 2)) q ∙ sym low)

    given_assigned : Given word flag c last x c' last' → Assigned t o (renew W (R (suc v))) c last x c' last'
    given_assigned (given_edge a b d g) = equal_edges (turn_inj (t % 2) t o (sym middle ∙ a ∙ low)) (omega (arith, middle, f, b, plain (t % 2) (omega arith))) d g
    given_assigned (given_number a b (same_record d g h)) = repeated (differ a) (sym w ∙ d) (omega (arith, f)) g (h ∙ w)
    given_assigned (given_number a b (new_record d g h)) = another (differ a) (λ k. d (w ∙ k)) (omega (arith, f)) (omega arith) (h ∙ w)

  -- the place that the code gives is the node's
  pub gave_placed : (s s' : List ℕ) (v word flag c' last' : ℕ) → Going R (word_at s) M c last Done → 0 < v → v ≤ M → 8 * v + 8 ≤ length s
      → IsKey (word_at s) v (R v) word flag → Gave s s' v word flag c last c' last' → Placed R (word_at s) (word_at s') v c last c' last'
  gave_placed s s' zero word flag c' last' G p l long K g = absurd (omega arith)
  gave_placed s s' (suc v) word flag c' last' G p l long K (skipped z e a b) = left_out (elim (tri 0 (word_at s (suc v))) [
    | less q ↦ absurd (omega (arith, K.word_is q, renew_positive R (word_at s) G.list n M c Done D G.closed G.numbered (omega arith) v l))
    | same q ↦ sym q
    | more q ↦ absurd (omega arith)
  ]) (ap word_at e) a b
  gave_placed s s' (suc v) word flag c' last' G p l long K (stored x z small e g) = elim (tri 0 (word_at s (suc v))) [
    | less q ↦ placed x q (rw e (put_updated s (suc v) x long small)) (given_assigned (word_at s) G v word flag x c' last' l (K.word_is q) (unfold then_edge in K.flag_is q) g)
    | same q ↦ absurd (z (K.dead (sym q)))
    | more q ↦ absurd (omega arith)
  ]

  -- a node whose edges lead to nodes that are done, and than which no other that is left is less, is done next
  pub placed_going : (W W' : Words) (v c' last' : ℕ) (Done' : ℕ → Type 0) → Going R W M c last Done → 0 < v → v ≤ M → Placed R W W' v c last c' last' → Adds Done Done' v
      → (0 < W v → (b : Bool) → Done (side R b v / 2)) → (0 < W v → (u : ℕ) → u < M → 0 < W (suc u) → (Done (suc u) → ⊥) → renew W (R v) ≤ renew W (R (suc u))) → Going R W' M c' last' Done'
  placed_going W W' zero c' last' Done' G p l P A ready least = absurd (omega arith)
  placed_going W W' (suc v) c' last' Done' G p l (left_out z e a b) A ready least =
      rw (e, a, b) (pass R W M c last Done Done' G A.old (λ u d. elim (A.only u d) [ inl q ↦ inl (ap W q ∙ z) | inr q ↦ inr q ]))
  placed_going W W' (suc v) c' last' Done' G p l (placed x k U B) A ready least =
      step R W W' n M c last v x c' last' Done Done' D G few l k U A (ready k) (least k) B
