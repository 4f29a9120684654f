-- The nodes of one height are numbered in one pass, where nodes are few: the sorted words carry them. Assumes nothing.
use Prim.Native.Nat.{ℕ, suc, ◌+◌, ◌*◌, ◌/◌, ◌%◌, ◌≤◌, ◌<◌}
use mathlib.Core.Path.{◌≡◌, refl, sym, ap, ◌∙◌}
use mathlib.Core.Bool.{Bool, true, false}
use mathlib.Core.List.{List}
use native.Mathlib.Omega.{arith}
use Rattle.words.specs.Words.{word_at}
use Rattle.words.proofs.Cases.{less, same, more, tri}
use Rattle.numbering.specs.Numbered.{Good, dropped, made}
use Rattle.sorting.specs.Sorting.{Sorted}
use Rattle.reducing.specs.Inner.{edge_of, records_of}
use Rattle.carrying.specs.Words.{keyed, carry, Carrying, Places, Placed}
use Rattle.reducing.specs.Steps.{Nodes, Ready, side_of, word_of, Candidate, Collected}
use Rattle.carrying.proofs.Placing.{carry_flag, carry_node, carry_record, carry_carries}
use Rattle.reducing.proofs.Collecting.{ready_side, collected_low}
use Rattle.reducing.proofs.Raising.{Leaves}

module _ {few : Bool} (D : Nodes) (W : ℕ → ℕ) (s s' : List ℕ) (P c h first end : ℕ) (ready : Ready few D W P c h first) (collected : Collected few D W (word_at s) P c h end 0)
    (O : Sorted s s' c end) (on : few ≡ true) where
  R : Ready true D W P c h first
  R = rw on at ready

  C : Collected true D W (word_at s) P c h end 0
  C = rw on at collected

  abbrev Z : ℕ → ℕ
  Z = word_at s'

  end_low : end ≤ P
  end_low = collected_low D W P c h first ready (word_at s) end collected

  fit : D.count ≤ P
  fit = R.staged.few

  -- what the edges of node i become
  abbrev t : ℕ → ℕ
  t i = side_of D W P true i

  abbrev e : ℕ → ℕ
  e i = side_of D W P false i

  -- its edges and itself fit a word
  module _ (i : ℕ) (l : i < D.count) (q : D.height i ≡ h) where
    side_low : (b : Bool) → side_of D W P b i < 131072
    side_low b = ready_side D W P c h first R b i l (omega arith) (omega (arith, R.some))

    node_low : i < 65536
    node_low = omega (arith, R.count_low refl)

    node_in : carry (t i) (e i) i % 65536 ≡ i
    node_in = carry_node (t i) (e i) i (side_low true) (side_low false) node_low

    flag_in : carry (t i) (e i) i / 65536 % 2 ≡ t i % 2
    flag_in = carry_flag (t i) (e i) i (side_low true) (side_low false) node_low

    record_in : keyed h (carry (t i) (e i) i / 131072) ≡ word_of false D W P h i
    record_in = carry_record (t i) (e i) i (side_low true) (side_low false) node_low h

  -- word k carries a node
  carried : (k : ℕ) → c ≤ k → k < end → Candidate true D W P h (Z k)
  carried k a b =
      let m = O.came (Z k) (record { at = k; from = a; to = b; is = refl }) in
      rw m.is at (C.came m.at m.from m.to)

  node_is : (k : ℕ) (a : c ≤ k) (b : k < end) → Z k % 65536 ≡ (carried k a b).node
  node_is k a b = let o = carried k a b in ap (λ (x : ℕ). x % 65536) o.is ∙ node_in o.node o.inside o.level

  pub carrying : Carrying Z P c end
  carrying = record {
    from = C.up;
    to = end_low;
    ascending = O.ascending;
    carries = λ k a b. let o = carried k a b in let l = side_low o.node o.inside o.level in
        rw o.is (carry_carries (t o.node) (e o.node) o.node (l true) (l false) (node_low o.node o.inside o.level) P (omega (arith, o.inside, fit)) o.apart);
    once = λ j k a b m n q. let v : (carried j a b).node ≡ (carried k m n).node = sym (node_is j a b) ∙ q ∙ node_is k m n in
        (carried j a b).is ∙ ap (word_of true D W P h) v ∙ sym (carried k m n).is;
  }

  -- they are numbered
  module _ (W' : ℕ → ℕ) (r : ℕ) (N : Placed Z W' P c end h r) where
    -- words behind P that are no carried node's place stay
    stays : (k : ℕ) → P ≤ k → ((j : ℕ) (a : c ≤ j) (b : j < end) → k ≡ P + (carried j a b).node → ⊥) → W' k ≡ word_at s k
    stays k l n = N.others k l (λ j a b q. n j a b (q ∙ ap (λ (v : ℕ). P + v) (node_is j a b))) ∙ O.after k (omega (arith, end_low))

    far : (k : ℕ) → 2 * P ≤ k → W' k ≡ word_at s k
    far k l = stays k (omega arith) (λ j a b q. omega (arith, (carried j a b).inside, fit))

    kept : (b : Bool) (i : ℕ) → i < D.count → (D.height i ≡ h → ⊥) → edge_of W' P b i ≡ edge_of (word_at s) P b i
    kept true i l n = stays (P + i) (omega arith) (λ j a b q. let v : i ≡ (carried j a b).node = omega arith in n (ap D.height v ∙ (carried j a b).level))
    kept false i l n = far (3 * P + i) (omega arith)

    -- a node whose edges are equal has its place as it is; another has the number of its record
    given : (i : ℕ) → i < D.count → D.height i ≡ h → Good h (t i) (e i) (suc (W' (P + i))) (records_of W') r
    unfolding records_of
    given i l q = elim (tri (t i) (e i)) [ less m ↦ apart (λ z. omega arith) | same m ↦ equal m | more m ↦ apart (λ z. omega arith) ]
      where
        equal : t i ≡ e i → Good h (t i) (e i) (suc (W' (P + i))) (records_of W') r
        equal m =
            dropped m (ap suc (stays (P + i) (omega arith) (λ j a b p. let v : i ≡ (carried j a b).node = omega arith in
            (carried j a b).apart (ap t (sym v) ∙ m ∙ ap e v)) ∙ C.sides true i l (omega arith) q))

        apart : (t i ≡ e i → ⊥) → Good h (t i) (e i) (suc (W' (P + i))) (records_of W') r
        apart n =
            let m = O.kept _ (C.made i l (omega arith) q n) in
            let p : Places W' P c h r (carry (t i) (e i) i) = rw m.is at (N.given m.at m.from m.to) in
            made p.at p.to n (ap suc (rw (node_in i l q, flag_in i l q) at p.number)) (p.makes ∙ record_in i l q)

    pub pass_leaves : Leaves D W W' P c h r
    pass_leaves = record {
      up = N.from;
      room = omega (arith, N.to, C.room);
      strict = N.strict;
      came = λ k a b. let m = N.came k a b in let o = carried m.at m.from m.to in
          record {
            node = o.node;
            inside = o.inside;
            level = o.level;
            apart = o.apart;
            is = sym m.is ∙ ap (λ (x : ℕ). keyed h (x / 131072)) o.is ∙ record_in o.node o.inside o.level;
          };
      given = given;
      before = λ k l. N.before k l ∙ O.before k l ∙ C.before k l;
      kept = λ b i l n. kept b i l n ∙ C.kept b i l (λ q. absurd (n q));
      links = λ i l. far (2 * P + i) (omega arith) ∙ C.links i (omega (arith, fit));
    }
