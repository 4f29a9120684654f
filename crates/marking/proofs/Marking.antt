-- Marking from the root down: what stands after each node. Assumes nothing.
use Prim.Native.Nat.{ℕ, zero, suc, ◌+◌, ◌-◌, ◌*◌, ◌/◌, ◌≤◌, ◌<◌}
use mathlib.Core.Path.{◌≡◌, sym, ap, ◌∙◌}
use mathlib.Core.Logic.{inl, inr}
use mathlib.Core.Bool.{true, false}
use mathlib.Core.List.{List}
use native.Mathlib.Omega.{arith}
use lib.ListN.{length}
use Rattle.words.specs.Words.{word_at, words_over}
use Rattle.words.proofs.Cases.{less, same, more, tri}
use Rattle.words.proofs.Laws.{words_read}
use Rattle.diagram.specs.Format.{Words, middle_field, low_field, then_edge, else_edge}
use Rattle.diagram.specs.Ordered.{Ordered}
use Rattle.diagram.specs.Reading.{HasFields}
use Rattle.diagram.proofs.Paths.{side_lower}
use Rattle.numbering.specs.Numbered.{Wanted}
use Rattle.marking.specs.Marks.{Spread, MarkedBelow, left_out, passed_on}

-- the nodes a and b that the record z of node v names, of fields h, t and e
module _ (R : Words) (n M v z h t e a b : ℕ) (z-is : z ≡ R v) (F : HasFields z h t e) (a-is : a ≡ t / 2) (b-is : b ≡ e / 2) where
  then_names : then_edge R v / 2 ≡ a
  unfolding then_edge
  then_names = ap (λ (x : ℕ). x / 2) (sym (F.middle_is ∙ ap middle_field z-is)) ∙ sym a-is

  else_names : else_edge R v / 2 ≡ b
  unfolding else_edge
  else_names = ap (λ (x : ℕ). x / 2) (sym (F.low_is ∙ ap low_field z-is)) ∙ sym b-is

  -- they lie inside
  pub names_inside : Ordered R n M → 0 < v → v ≤ M → (a ≤ M) × (b ≤ M)
  names_inside D some inside = (omega (arith, (side_lower R n M D true v some inside).node, then_names), omega (arith, (side_lower R n M D false v some inside).node, else_names))

  -- they are marked
  pub marked_below : (s s' : List ℕ) (m : ℕ) → m ≡ word_at s v → (m ≡ 0 → ⊥) → Spread (word_at s) (word_at s') a b → MarkedBelow R s s' v
  marked_below s s' m m-is live S = passed_on (omega (arith, live)) (rw (then_names, else_names) S)

-- what is marked above node v leads to what is marked; node `top` was the first
pub record Marking (R W : Words) (M top v : ℕ) : Type 0 where
  pub sink : W 0 ≡ 1
  pub bits : (u : ℕ) → u ≤ M → W u ≤ 1
  pub live : 0 < W top
  pub leads : (k : ℕ) → v ≤ k → k < M → 0 < W (suc k) → (0 < W (then_edge R (suc k) / 2)) × (0 < W (else_edge R (suc k) / 2))
  pub wanted : Wanted R W M top

-- before the first: only the sink and `top` are marked
pub marking_start : (R : Words) (s z s' : List ℕ) (M last top : ℕ) → 8 * M + 8 ≤ length s → last ≡ M → z ≡ words_over (λ _. 0) (last + 1) s → Spread (word_at z) (word_at s') 0 top
    → Marking R (word_at s') M top last
marking_start R s z s' M last top l m p S = record {
  sink = let a = S.bits 0 (omega (arith, zeros 0 (omega arith))) in let b = S.first in omega arith;
  bits = λ u o. S.bits u (omega (arith, zeros u o));
  live = S.second;
  leads = λ k a b. absurd (omega (arith, m));
  wanted = λ k o i. elim (S.only (suc k) i) [ inl q ↦ absurd (omega (arith, zeros (suc k) o)) | inr q ↦ elim q [ inl e ↦ absurd (omega arith) | inr e ↦ inl e ] ];
}
  where
    zeros : (u : ℕ) → u ≤ M → word_at z u ≡ 0
    zeros u o = ap (λ (x : List ℕ). word_at x u) p ∙ words_read (λ _. 0) (last + 1) s u (omega (arith, m)) (omega (arith, m))

-- one node down
marking_next : (R : Words) (s s' : List ℕ) (n M top v : ℕ) → Ordered R n M → v < M → Marking R (word_at s) M top (suc v) → MarkedBelow R s s' (suc v) → Marking R (word_at s') M top v
marking_next R s s' n M top v D l G (left_out z e) = rw e (record {
  sink = G.sink;
  bits = G.bits;
  live = G.live;
  leads = λ k a b i. elim (tri v k) [ less p ↦ G.leads k p b i | same p ↦ absurd (omega (arith, ap (λ (u : ℕ). word_at s (suc u)) p)) | more p ↦ absurd (omega arith) ];
  wanted = G.wanted;
})
marking_next R s s' n M top v D l G (passed_on live S) = record {
  sink = let a = S.bits 0 (omega (arith, G.sink)) in let b = S.keeps 0 (omega (arith, G.sink)) in omega arith;
  bits = λ u m. S.bits u (G.bits u m);
  live = S.keeps top G.live;
  leads = λ k a b i. elim (tri v k) [
    | less p ↦ let j = G.leads k p b (before k p i) in (S.keeps (then_edge R (suc k) / 2) j.0, S.keeps (else_edge R (suc k) / 2) j.1)
    | same p ↦ rw (← p) (S.first, S.second)
    | more p ↦ absurd (omega arith)
  ];
  wanted = λ k m i. elim (S.only (suc k) i) [
    | inl p ↦ elim (G.wanted k m p) [ inl q ↦ inl q | inr q ↦ inr (q.0, q.1, S.keeps (suc q.0) q.2, q.3) ]
    | inr p ↦ inr (v, l, S.keeps (suc v) live, elim p [ inl q ↦ inl (sym q) | inr q ↦ inr (sym q) ])
  ];
}
  where
    -- the nodes that are marked now lie below
    before : (k : ℕ) → v < k → 0 < word_at s' (suc k) → 0 < word_at s (suc k)
    before k p i =
        let a = D.then_node v l in
        let b = D.else_node v l in
        elim (S.only (suc k) i) [ inl q ↦ q | inr q ↦ elim q [ inl e ↦ absurd (omega arith) | inr e ↦ absurd (omega arith) ] ]

-- the same of a node by its own number
pub marking_down : (R : Words) (s s' : List ℕ) (n M top v : ℕ) → Ordered R n M → 0 < v → v ≤ M → Marking R (word_at s) M top v → MarkedBelow R s s' v → Marking R (word_at s') M top (v - 1)
marking_down R s s' n M top zero D l m G P = absurd (omega arith)
marking_down R s s' n M top (suc v) D l m G P = let e : suc v - 1 ≡ v = omega arith in rw e (marking_next R s s' n M top v D m G P)
