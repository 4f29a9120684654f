-- Nodes are met one after the other, each once. Assumes nothing.
use Prim.Native.Nat.{ℕ, zero, suc, ◌+◌, ◌-◌, ◌*◌, ◌/◌, ◌≤◌, ◌<◌}
use mathlib.Core.Path.{◌≡◌, sym, ap, subst, ◌∙◌}
use mathlib.Core.Bool.{Bool}
use mathlib.Core.List.{List}
use native.Mathlib.Omega.{arith}
use lib.ListN.{length, get_or, set, length-set}
use lib.Seq.{get_or-set_same, get_or-set_other}
use Rattle.words.specs.Words.{word_at, put_word}
use Rattle.words.proofs.Cases.{less, same, more, tri}
use Rattle.words.proofs.Stores.{stored, stored_long, stored_byte, word_set}
use Rattle.diagram.specs.Format.{Words, height}
use Rattle.diagram.specs.Reading.{side}
use Rattle.diagram.proofs.Members.{distinct_le}
use Rattle.diagram.proofs.Paths.{loose_node}
use Rattle.gathering.specs.Inner.{LooseWithin, mark, NoMarks, Meets, Met, AllMet}

-- the record of a node inside is there, and so are the nodes of its edges
module _ (t : List ℕ) (P v : ℕ) (I : LooseWithin t P v) where
  pub within_room : 8 * P ≤ length t
  within_room = omega (arith, I.places, I.long)

  pub within_place : v < P
  within_place = omega (arith, I.inside, I.places)

  pub edge_inside : (b : Bool) (u : ℕ) → 0 < u → u < P → side (word_at t) b u / 2 < P
  edge_inside b zero s l = absurd (omega arith)
  edge_inside b (suc u) s l = omega (arith, loose_node (word_at t) I.settings I.nodes I.records b u (omega (arith, I.places)), I.places)

  pub node_tall : (u : ℕ) → 0 < u → u < P → 0 < height (word_at t) u
  node_tall zero s l = absurd (omega arith)
  node_tall (suc u) s l = I.records.tall u (omega (arith, I.places))

-- a mark is set, and then a word stored
module _ (s a t : List ℕ) (P count v : ℕ) (long : 33 * P ≤ length s) (inside : v < P) (room : count < P) (low : mark s P v ≤ 1)
    (a-is : a ≡ set s (32 * P + v) 1) (t-is : t ≡ put_word a count v) (fits : v < 18446744073709551616) where
  a_long : length a ≡ length s
  a_long = ap length a-is ∙ length-set s (32 * P + v) 1

  pub meets_long : length t ≡ length s
  meets_long = stored_long a t count v t-is (omega (arith, a_long)) ∙ a_long

  -- the marks, by the set alone
  marks_set : (u : ℕ) → mark t P u ≡ get_or (set s (32 * P + v) 1) (32 * P + u) 0
  marks_set u = stored_byte a t count v t-is (omega (arith, a_long)) (32 * P + u) (omega arith) ∙ ap (λ (x : List ℕ). get_or x (32 * P + u) 0) a-is

  pub meets : (r : ℕ) → r ≡ count + 1 - mark s P v → Meets s t P count v r
  meets r e =
      let U = stored a t count v t-is (omega (arith, a_long)) fits in
      record {
        long = meets_long;
        here = U.here;
        others = λ k l n. U.other k n ∙ ap (λ (x : List ℕ). word_at x k) a-is ∙ word_set s (32 * P + v) 1 k (omega arith);
        marked = marks_set v ∙ get_or-set_same s (32 * P + v) 1 0 (omega arith);
        marks = λ u l n. marks_set u ∙ get_or-set_other s (32 * P + v) (32 * P + u) 1 0 (λ q. n (omega arith));
        counts = omega arith;
      }

-- fewer nodes are met than there are places: all are different, and none is the sink
pub met_few : (w : Words) (s : List ℕ) (P i count root : ℕ) → Met w s P i count root → 0 < P → count < P
met_few w s P i count root M some =
    omega (
      arith,
      distinct_le count (P - 1) (λ k l. word_at s k - 1) (λ k l. let n = M.nodes k l in omega (arith, n.0, n.1))
          (λ j k l m e. M.once j k l m (omega (arith, (M.nodes j l).0, (M.nodes k m).0))),
    )

-- node v is met: it is the root, or a node that was met leads to it
module _ (w : Words) (s t : List ℕ) (P i count root v r : ℕ) (M : Met w s P i count root) (inside : v < P) (room : count < P) (X : Meets s t P count v r)
    (why : (v ≡ root → ⊥) → (j : ℕ) × (b : Bool) × (j < count) × (side w b (word_at s j) / 2 ≡ v)) where
  word_stays : (k : ℕ) → k < count → word_at t k ≡ word_at s k
  word_stays k l = X.others k (omega arith) (λ e. omega arith)

  -- a mark stays
  mark_stays : (u : ℕ) → u < P → mark s P u ≡ 1 → mark t P u ≡ 1
  mark_stays u l m = elim (tri u v) [ less q ↦ X.marks u l (λ e. omega arith) ∙ m | same q ↦ ap (mark t P) q ∙ X.marked | more q ↦ X.marks u l (λ e. omega arith) ∙ m ]

  up : count ≤ r
  up = omega (arith, X.counts, M.bits v inside)

  -- the word behind the others is v, if it is new
  new_is : (k : ℕ) → count ≤ k → k < r → (k ≡ count) × (mark s P v ≡ 0) × (0 < v)
  new_is k l m =
      let z : mark s P v ≡ 0 = omega (arith, X.counts) in
      (omega (arith, X.counts), z, elim (tri 0 v) [ less q ↦ q | same q ↦ absurd (omega (arith, M.sink, ap (mark s P) q)) | more q ↦ absurd (omega arith) ])

  new_word : (k : ℕ) → count ≤ k → k < r → word_at t k ≡ v
  new_word k l m = ap (word_at t) (new_is k l m).0 ∙ X.here

  -- of word k: it stood, or it is v
  by_word : (Q : ℕ → ℕ → Type 0) → ((k : ℕ) → k < count → Q k (word_at s k)) → ((k : ℕ) → count ≤ k → k < r → Q k v) → (k : ℕ) → k < r → Q k (word_at t k)
  by_word Q old new k l = elim (tri k count) [
    | less q ↦ subst (Q k) (sym (word_stays k q)) (old k q)
    | same q ↦ subst (Q k) (sym (new_word k (omega arith) l)) (new k (omega arith) l)
    | more q ↦ subst (Q k) (sym (new_word k (omega arith) l)) (new k (omega arith) l)
  ]

  once : (j k : ℕ) → j < r → k < r → word_at t j ≡ word_at t k → j ≡ k
  once j k l m = by_word (λ j x. x ≡ word_at t k → j ≡ k)
      (λ j p. by_word (λ k y. word_at s j ≡ y → j ≡ k) (λ k q e. M.once j k p q e) (λ k a b e. absurd (omega (arith, (new_is k a b).1, (M.nodes j p).2, ap (mark s P) e))) k m)
      (λ j a b. by_word (λ k y. v ≡ y → j ≡ k) (λ k q e. absurd (omega (arith, (new_is j a b).1, (M.nodes k q).2, ap (mark s P) e)))
      (λ k c d e. (new_is j a b).0 ∙ sym (new_is k c d).0) k m) j l

  -- v has its word
  here : 0 < v → (k : ℕ) × (k < r) × (word_at t k ≡ v)
  here p = elim (tri (mark s P v) 1) [
    | less q ↦ (count, omega (arith, X.counts), X.here)
    | same q ↦ let k = M.listed v inside p q in (k.0, omega (arith, k.1, up), word_stays k.0 k.1 ∙ k.2)
    | more q ↦ absurd (omega (arith, M.bits v inside))
  ]

  listed : (u : ℕ) → u < P → 0 < u → mark t P u ≡ 1 → (k : ℕ) × (k < r) × (word_at t k ≡ u)
  listed u l p m = elim (tri u v) [
    | less q ↦ old (λ e. omega arith)
    | same q ↦ subst (λ (x : ℕ). (k : ℕ) × (k < r) × (word_at t k ≡ x)) (sym q) (here (omega arith))
    | more q ↦ old (λ e. omega arith)
  ]
    where
      old : (u ≡ v → ⊥) → (k : ℕ) × (k < r) × (word_at t k ≡ u)
      old n = let k = M.listed u l p (sym (X.marks u l n) ∙ m) in (k.0, omega (arith, k.1, up), word_stays k.0 k.1 ∙ k.2)

  -- a node that leads to another one still does
  leads : (x : ℕ) → (j : ℕ) × (b : Bool) × (j < count) × (side w b (word_at s j) / 2 ≡ x) → (j : ℕ) × (b : Bool) × (j < r) × (side w b (word_at t j) / 2 ≡ x)
  leads x (j, b, l, e) = (j, b, omega (arith, l, up), ap (λ (y : ℕ). side w b y / 2) (word_stays j l) ∙ e)

  pub met_next : Met w t P i r root
  met_next = record {
    up = omega (arith, M.up, up);
    sink = mark_stays 0 (omega arith) M.sink;
    bits = λ u l. elim (tri u v) [
      | less q ↦ omega (arith, X.marks u l (λ e. omega arith), M.bits u l)
      | same q ↦ omega (arith, ap (mark t P) q, X.marked)
      | more q ↦ omega (arith, X.marks u l (λ e. omega arith), M.bits u l)
    ];
    listed = listed;
    nodes = by_word (λ k x. (0 < x) × (x < P) × (mark t P x ≡ 1)) (λ k l. let n = M.nodes k l in (n.0, n.1, mark_stays (word_at s k) n.1 n.2)) (λ k a b. ((new_is k a b).2, inside, X.marked));
    once = once;
    closed = λ b k l. let c = M.closed b k l in
        subst (λ (x : ℕ). (side w b x / 2 < P) × (mark t P (side w b x / 2) ≡ 1)) (sym (word_stays k (omega (arith, M.up)))) (c.0, mark_stays (side w b (word_at s k) / 2) c.0 c.1);
    named = by_word (λ k x. (x ≡ root → ⊥) → (j : ℕ) × (b : Bool) × (j < r) × (side w b (word_at t j) / 2 ≡ x)) (λ k l n. leads (word_at s k) (M.named k l n)) (λ k a b n. leads v (why n));
  }

  pub met_word : (k : ℕ) → k < count → word_at t k ≡ word_at s k
  met_word = word_stays

  pub met_stays : (u : ℕ) → u < P → mark s P u ≡ 1 → mark t P u ≡ 1
  met_stays = mark_stays

-- one more node is done: the nodes of its edges are met
pub met_done : (w : Words) (s : List ℕ) (P i count root : ℕ) → Met w s P i count root → i < count
    → ((b : Bool) → (side w b (word_at s i) / 2 < P) × (mark s P (side w b (word_at s i) / 2) ≡ 1)) → Met w s P (i + 1) count root
met_done w s P i count root M l f = record {
  up = omega arith;
  sink = M.sink;
  bits = M.bits;
  listed = M.listed;
  nodes = M.nodes;
  once = M.once;
  closed = λ b k m. elim (tri k i) [ less q ↦ M.closed b k q | same q ↦ rw q (f b) | more q ↦ absurd (omega arith) ];
  named = M.named;
}

-- before the first: the sink alone has a mark
pub met_none : (w : Words) (s t : List ℕ) (P root : ℕ) → 33 * P ≤ length s → 0 < P → NoMarks s P → t ≡ set s (32 * P) 1 → Met w t P 0 0 root
met_none w s t P root long some none t-is = record {
  up = omega arith;
  sink = first;
  bits = λ v l. elim (tri 0 v) [ less q ↦ omega (arith, other v l q) | same q ↦ omega (arith, ap (mark t P) (sym q), first) | more q ↦ absurd (omega arith) ];
  listed = λ v l p m. absurd (omega (arith, other v l p));
  nodes = λ k l. absurd (omega arith);
  once = λ j k l. absurd (omega arith);
  closed = λ b k l. absurd (omega arith);
  named = λ k l. absurd (omega arith);
}
  where
    at : (v : ℕ) → mark t P v ≡ get_or (set s (32 * P) 1) (32 * P + v) 0
    at v = ap (λ (x : List ℕ). get_or x (32 * P + v) 0) t-is

    first : mark t P 0 ≡ 1
    first = let z : 32 * P + 0 ≡ 32 * P = omega arith in at 0 ∙ ap (λ (x : ℕ). get_or (set s (32 * P) 1) x 0) z ∙ get_or-set_same s (32 * P) 1 0 (omega arith)

    other : (v : ℕ) → v < P → 0 < v → mark t P v ≡ 0
    other v l p = at v ∙ get_or-set_other s (32 * P) (32 * P + v) 1 0 (λ e. omega arith) ∙ none v l

-- all that were met are done
pub met_all : {w : Words} {s : List ℕ} {P i count root : ℕ} → i ≡ count → Met w s P i count root → mark s P root ≡ 1 → AllMet w s P root
met_all {w} {s} {P} {i} {count} {root} e M m = record { count = count; met = subst (λ (k : ℕ). Met w s P k count root) e M; root_met = m }
