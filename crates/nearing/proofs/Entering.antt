-- The distances are entered node by node, in the terms of the code. Assumes nothing.
use Prim.Native.Nat.{ℕ, zero, suc, min, ◌+◌, ◌-◌, ◌*◌, ◌/◌, ◌%◌, ◌≤◌, ◌<◌}
use mathlib.Core.Path.{◌≡◌, refl, sym, ap, subst, ◌∙◌}
use mathlib.Core.Bool.{Bool, true, false, cond}
use mathlib.Core.List.{List}
use native.Mathlib.Omega.{arith}
use lib.ListN.{length, get_or, set, length-set}
use lib.Dec.{ltb}
use lib.Seq.{get_or-set_same, get_or-set_other}
use borrow.Author.Tests.{ltb-true, ltb-false}
use Rattle.words.specs.Words.{word_at}
use Rattle.words.proofs.Cases.{Tri, less, same, more, tri}
use Rattle.diagram.specs.Format.{Words}
use Rattle.diagram.specs.Meaning.{bit}
use Rattle.diagram.specs.Count.{indicator}
use Rattle.diagram.specs.Reading.{IsRecord, turn}
use Rattle.diagram.proofs.Paths.{tall_node}
use Rattle.distances.proofs.Looking.{edge_few}
use Rattle.walking.specs.Inner.{Forks}
use Rattle.walking.proofs.Forking.{forks}
use Rattle.nearing.specs.Inner.{lesser, HasBytes, IsFar, Filled, Next, Fillable}
use Rattle.nearing.proofs.Far.{far_small, far_always, far_never, far_edge}

-- the lesser cost, as the code chooses it
pub lesser_min : (off on : ℕ) → min off on ≡ lesser off on
unfolding lesser
lesser_min off on = go (ltb on off) refl
  where
    go : (c : Bool) → ltb on off ≡ c → min off on ≡ cond c on off
    go true q = let l = ltb-true on off q in omega arith
    go false q = let l = ltb-false on off q in omega arith

-- the bytes of the two sides of edge e, which lead to nodes before node k
pub sides_bytes : (t s : List ℕ) (n x k e h high low : ℕ) → Filled t s x k → Forks t n e h high low → e / 2 ≤ k + 1 → HasBytes s high low
sides_bytes t s n x k e h high low F S l =
    let i : high / 2 ≤ k = omega (arith, S.smaller true) in
    let j : low / 2 ≤ k = omega (arith, S.smaller false) in
    record {
      high_in = omega (arith, F.room);
      low_in = omega (arith, F.room);
      high_small = far_small (word_at t) x high (get_or s high 0) (F.far high i) (edge_few t n high (S.lies true));
      low_small = far_small (word_at t) x low (get_or s low 0) (F.far low j) (edge_few t n low (S.lies false));
    }

-- the height of node k
pub node_low : (t s : List ℕ) (x k : ℕ) → Next t s x k → (h a c : ℕ) → IsRecord (word_at t) k h a c → (0 < h) × (h ≤ 63)
node_low t s x k N h a c r =
    let L = N.lies.1 in
    (rw r.height_is (tall_node (word_at t) N.lies.0 L.nodes L.reduced.ordered k N.some (omega (arith, L.inside))), r.low)

-- node k has this record, and its setting was as in x
module _ (t s : List ℕ) (x k : ℕ) (N : Next t s x k) (h a c : ℕ) (r : IsRecord (word_at t) k h a c) (was : ℕ) (was-is : was ≡ indicator (bit h x)) where
  abbrev w : Words
  w = word_at t

  abbrev n : ℕ
  n = N.lies.0

  -- an edge to it, and the sheet with what was entered for the node
  module _ (e high low : ℕ) (e-is : e / 2 ≡ k) (sides : (high ≡ turn (e % 2) a) × (low ≡ turn (e % 2) c)) (s' : List ℕ) (long : length s' ≡ length s)
      (before : (i : ℕ) → i < 2 * k → get_or s' i 0 ≡ get_or s i 0) where
    edge_forks : Forks t n e h high low
    edge_forks =
        let L = N.lies.1 in
        forks t n e k (record { nodes = L.nodes; holds = L.holds; reduced = L.reduced; inside = omega (arith, L.inside) }) (sym e-is) N.some h a c r high low sides

    kept : Filled t s' x (k - 1)
    kept = record {
      room = omega (arith, N.below.room);
      far = λ i l. subst (IsFar w x i) (sym (before i (omega (arith, N.some)))) (N.below.far i l);
    }

    pub edge_bytes : HasBytes s' high low × (e < length s')
    edge_bytes = (sides_bytes t s' n x (k - 1) e h high low kept edge_forks (omega (arith, N.some)), omega (arith, N.room))

    pub edge_far : IsFar w x e (lesser (get_or s' low 0 + was) (get_or s' high 0 + (1 - was)))
    edge_far =
        far_edge t n x e h high low edge_forks (get_or s' high 0) (get_or s' low 0) was (kept.far high (omega (arith, edge_forks.smaller true))) (kept.far low (omega (arith, edge_forks.smaller false))) was-is

  -- one edge is entered: the nodes before keep their distances
  pub kept_before : (e v : ℕ) (s' : List ℕ) → e ≡ 2 * k → s' ≡ set s e v → (length s' ≡ length s) × ((i : ℕ) → i < 2 * k → get_or s' i 0 ≡ get_or s i 0)
  kept_before e v s' e-is q = (ap length q ∙ simp length-set, λ i l. ap (λ (m : List ℕ). get_or m i 0) q ∙ get_or-set_other s e i v 0 (λ z. omega arith))

  -- and then the other
  pub node_entered : (e f v u : ℕ) (s' s'' : List ℕ) → s' ≡ set s e v → s'' ≡ set s' f u → e ≡ 2 * k → f ≡ 2 * k + 1 → IsFar w x e v → IsFar w x f u → Filled t s'' x k
  node_entered e f v u s' s'' p q e-is f-is far-e far-f = rw (q, p) record { room = simp length-set N.room; far = λ i l. at i l (tri i e) }
    where
      at : (i : ℕ) → i / 2 ≤ k → Tri i e → IsFar w x i (get_or (set (set s e v) f u) i 0)
      at i l (less q) =
          subst (IsFar w x i) (sym (get_or-set_other (set s e v) f i u 0 (λ z. omega arith) ∙ get_or-set_other s e i v 0 (λ z. omega arith))) (N.below.far i (omega (arith, N.some)))
      at i l (same q) =
          let g : get_or (set (set s e v) f u) i 0 ≡ v = get_or-set_other (set s e v) f i u 0 (λ z. omega arith) ∙ ap (λ (j : ℕ). get_or (set s e v) j 0) q ∙ get_or-set_same s e v 0 (omega (arith, N.room)) in
          subst (λ (j : ℕ). IsFar w x j (get_or (set (set s e v) f u) i 0)) (sym q) (subst (IsFar w x e) (sym g) far-e)
      at i l (more q) =
          let i-is : i ≡ f = omega arith in
          let g : get_or (set (set s e v) f u) i 0 ≡ u = ap (λ (j : ℕ). get_or (set (set s e v) f u) j 0) i-is ∙ get_or-set_same (set s e v) f u 0 (simp length-set (omega (arith, N.room))) in
          subst (λ (j : ℕ). IsFar w x j (get_or (set (set s e v) f u) i 0)) (sym i-is) (subst (IsFar w x f) (sym g) far-f)

-- before the first node: the two edges to the sink
pub sink_filled : (t s : List ℕ) (n N x : ℕ) → Fillable t s n N → Filled t (set (set s 0 0) 1 64) x 0
sink_filled t s n N x F = record { room = simp length-set (omega (arith, F.room)); far = at }
  where
    at : (i : ℕ) → i / 2 ≤ 0 → IsFar (word_at t) x i (get_or (set (set s 0 0) 1 64) i 0)
    at zero l = subst (IsFar (word_at t) x 0) (sym (get_or-set_other (set s 0 0) 1 0 64 0 (λ z. omega arith) ∙ get_or-set_same s 0 0 0 (omega (arith, F.room)))) (far_always (word_at t) x)
    at (suc zero) l = subst (IsFar (word_at t) x 1) (sym (get_or-set_same (set s 0 0) 1 64 0 (simp length-set (omega (arith, F.room))))) (far_never (word_at t) x)
    at (suc (suc i)) l = absurd (omega arith)

-- the next node
pub next_node : (t s s' : List ℕ) (n N x k : ℕ) → Fillable t s n N → length s' ≡ length s → k < N → Filled t s' x k → Next t s' x (k + 1)
next_node t s s' n N x k F long l G =
    let d : k ≡ k + 1 - 1 = omega arith in
    record {
      some = omega arith;
      lies = (n, record { nodes = N; holds = F.holds; reduced = F.reduced; inside = omega arith });
      room = omega (arith, F.room);
      below = subst (Filled t s' x) d G;
    }
