-- The nodes that were met are laid, and no other. Assumes nothing.
use Prim.Native.Nat.{ℕ, ◌+◌, ◌*◌, ◌/◌, ◌<◌}
use mathlib.Core.Path.{◌≡◌, refl, sym, subst, ◌∙◌}
use mathlib.Core.Logic.{inl, inr}
use mathlib.Core.Bool.{Bool, true, false, cond}
use mathlib.Core.List.{List}
use native.Mathlib.Omega.{arith}
use Rattle.words.specs.Words.{word_at}
use Rattle.words.proofs.Cases.{less, same, more, tri}
use Rattle.diagram.specs.Format.{Words, height}
use Rattle.diagram.specs.Reading.{side}
use Rattle.gathering.specs.Inner.{LooseWithin, laid, NamedBy, Reached, mark, AllMet, AllLaid}
use Rattle.gathering.proofs.Meeting.{edge_inside, node_tall}

module _ (t : List ℕ) (P root : ℕ) (I : LooseWithin t P root) (inside : root < P) (s s' : List ℕ) (A : AllMet (word_at t) s P root) (L : AllLaid (word_at t) s s' P P) where
  abbrev w : Words
  w = word_at t

  abbrev W : ℕ → ℕ
  W = word_at s'

  -- what is laid has a mark, and is not the sink
  laid_marked : (v : ℕ) → v < P → 0 < laid W P v → (0 < v) × (mark s P v ≡ 1)
  laid_marked v l p = (
    elim (tri 0 v) [ less q ↦ q | same q ↦ absurd (omega (arith, ((L.nodes v l).none (inl (sym q))).0)) | more q ↦ absurd (omega arith) ],
    elim (tri (mark s P v) 1) [
      | less q ↦ absurd (omega (arith, ((L.nodes v l).none (inr (omega arith))).0))
      | same q ↦ q
      | more q ↦ absurd (omega (arith, A.met.bits v l))
    ],
  )

  -- and the other way
  marked_laid : (v : ℕ) → v < P → 0 < v → mark s P v ≡ 1 → 0 < laid W P v
  marked_laid v l p m = omega (arith, ((L.nodes v l).some p (omega arith)).0, node_tall t P root I v p l)

  fields : (v : ℕ) → v < P → 0 < laid W P v → (laid W P v ≡ height w v) × ((b : Bool) → cond b (W (P + v)) (W (3 * P + v)) ≡ side w b v)
  fields v l p =
      let m = laid_marked v l p in
      let f = (L.nodes v l).some m.0 (omega (arith, m.1)) in
      (f.0, λ b. elim b as (λ b. cond b (W (P + v)) (W (3 * P + v)) ≡ side w b v) [ true ↦ f.1 | false ↦ f.2 ])

  free : (v : ℕ) → v < P → laid W P v ≡ 0 → W (P + v) ≡ 0
  free v l z = elim (tri 0 v) [
    | less q ↦ elim (tri (mark s P v) 1) [
      | less m ↦ ((L.nodes v l).none (inr (omega arith))).1
      | same m ↦ absurd (omega (arith, marked_laid v l q m))
      | more m ↦ absurd (omega (arith, A.met.bits v l))
    ]
    | same q ↦ ((L.nodes v l).none (inl (sym q))).1
    | more q ↦ absurd (omega arith)
  ]

  -- a laid node is one of those met
  met_at : (v : ℕ) → v < P → 0 < laid W P v → (k : ℕ) × (k < A.count) × (word_at s k ≡ v)
  met_at v l p = let m = laid_marked v l p in A.met.listed v l m.0 m.1

  closed : (b : Bool) (v : ℕ) → v < P → 0 < laid W P v → 0 < side w b v / 2 → 0 < laid W P (side w b v / 2)
  closed b v l p q =
      let k = met_at v l p in
      let c = subst (λ (x : ℕ). (side w b x / 2 < P) × (mark s P (side w b x / 2) ≡ 1)) k.2 (A.met.closed b k.0 k.1) in
      marked_laid (side w b v / 2) c.0 q c.1

  named : (u : ℕ) → u < P → 0 < laid W P u → (u ≡ root → ⊥) → NamedBy w W P u
  named u l p n =
      let k = met_at u l p in
      let m = A.met.named k.0 k.1 (λ e. n (sym k.2 ∙ e)) in
      let d = A.met.nodes m.0 m.2 in
      (word_at s m.0, m.1, d.1, marked_laid (word_at s m.0) d.1 d.0 d.2, m.3 ∙ k.2)

  pub all_reached : Reached w W P root
  all_reached = record {
    gathered = record {
      sink = ((L.nodes 0 (omega arith)).none (inl refl)).0;
      free = free;
      height_is = λ v l p. (fields v l p).0;
      edge_is = λ b v l p. (fields v l p).1 b;
      inside = λ b v l p. edge_inside t P root I b v (laid_marked v l p).0 l;
      closed = closed;
    };
    here = λ p. marked_laid root inside p A.root_met;
    named = named;
  }
