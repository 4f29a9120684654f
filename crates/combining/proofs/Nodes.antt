-- The pairs as the nodes of a diagram: what it means, and that its first node leads to all. Assumes nothing.
use Prim.Native.Nat.{ℕ, ◌+◌, ◌*◌, ◌/◌, ◌%◌, ◌≤◌, ◌<◌}
use mathlib.Core.Path.{◌≡◌, sym, ap, ◌∙◌}
use mathlib.Core.Bool.{Bool, true, false, cond}
use mathlib.Core.List.{List}
use native.Mathlib.Omega.{arith}
use lib.ListN.{length}
use Rattle.words.specs.Words.{word_at}
use Rattle.diagram.specs.Format.{Words}
use Rattle.diagram.specs.Meaning.{bit, flip, under}
use Rattle.pairing.specs.Pairs.{pair_height, follow}
use Rattle.pairing.specs.Inner.{meaning, AllPairs}
use Rattle.pairing.proofs.Pairs.{first_of_pair, second_of_pair, follow_lower}
use Rattle.pairing.proofs.Meaning.{meaning_step, meaning_sink}
use Rattle.pairing.proofs.Leading.{reached_parent}
use Rattle.reducing.specs.Levels.{Loose, Named, Means}
use Rattle.reducing.specs.Inner.{height_of, edge_of, result_of}
use Rattle.compiling.specs.Inner.{HoldsDiagram, along}
use Rattle.naming.specs.declared.Operation.{Operation}
use Rattle.naming.specs.Combination.{names, combination}
use Rattle.naming.specs.Inner.{AllReady}

module _ (op : Operation) (t u : List ℕ) (n a b : ℕ) (W : ℕ → ℕ) (sheet : List ℕ) (P count : ℕ) (A : AllPairs t u n a b W P count)
    (Y : AllReady op (word_at t) (word_at u) W (word_at sheet) P count) where
  abbrev w : Words
  w = word_at t

  abbrev v : Words
  v = word_at u

  abbrev W' : ℕ → ℕ
  W' = word_at sheet

  abbrev g : ℕ → ℕ
  g = height_of W' P

  abbrev E : Bool → ℕ → ℕ
  E = edge_of W' P

  -- a node's height is its pair's
  height_is : (i : ℕ) → i < count → g i ≡ pair_height w v (W i)
  height_is i l = (Y.ready i l).height_is

  tall : (i : ℕ) → i < count → 0 < g i → 0 < pair_height w v (W i)
  tall i l s = omega (arith, height_is i l)

  -- its edges lead to what the pair leads to
  edge_is : (on : Bool) (i : ℕ) → i < count → 0 < g i → (j : ℕ) × (j < count) × (E on i ≡ 2 * j) × (W j ≡ follow w v on (W i))
  edge_is on i l s =
      let q = A.leads on i l (tall i l s) in
      (q.0, q.1, stays on ∙ q.2, q.3)
    where
      stays : (b : Bool) → E b i ≡ cond b (W (P + i)) (W (3 * P + i))
      stays true = (Y.ready i l).edge_stays (tall i l s)
      stays false = Y.second i

  edge_node : (on : Bool) (i : ℕ) (l : i < count) (s : 0 < g i) → E on i / 2 ≡ (edge_is on i l s).0
  edge_node on i l s = omega (arith, (edge_is on i l s).2)

  pairs_loose : Loose g E n count
  pairs_loose = record {
    low = λ i l. omega (arith, height_is i l, A.low i l);
    inside = λ b i l s. let q = edge_is b i l s in omega (arith, q.1, q.2);
    lower = λ b i l s. let q = edge_is b i l s in
        rw (edge_node b i l s) (omega (arith, height_is q.0 q.1, height_is i l, ap (pair_height w v) q.3, follow_lower t u (W i) (A.inside i l) (tall i l s) b));
  }

  -- every pair but the first is led to
  pairs_named : Named g E count 0
  pairs_named i l _ other =
      let f = A.begins in
      let p = reached_parent w v n a b (W i) (A.sound i l) (λ e. other (A.distinct i 0 l f.0 (e ∙ sym f.1))) in
      let j = A.complete p.0 p.3 in
      let s : 0 < g j.0 = omega (arith, height_is j.0 j.1, ap (pair_height w v) j.2, p.2) in
      let q = edge_is p.1 j.0 j.1 s in
      let e : W q.0 ≡ W i = q.3 ∙ ap (follow w v p.1) j.2 ∙ p.4 in
      (j.0, p.1, j.1, s, edge_node p.1 j.0 j.1 s ∙ A.distinct q.0 i q.1 l e)

  -- a node permits what the operation makes of its pair
  abbrev F : ℕ → ℕ → Bool
  F i x = meaning w v (names op) (W i) x

  pub pairs_mean : Means g E (result_of W' P) F count
  unfolding flip
  pairs_mean = record {
    sink = λ i l z x. let e : pair_height w v (W i) ≡ 0 = omega (arith, height_is i l) in
        meaning_sink t u (names op) (W i) (A.inside i l) e x ∙ sym ((Y.ready i l).flag_is e).permits;
    step = λ i l s x. let c = bit (g i) x in let q = edge_is c i l s in
        let z : E c i % 2 ≡ 0 = omega (arith, q.2) in
        meaning_step t u (names op) (W i) (A.inside i l) (tall i l s) x
        ∙ ap (λ (h : ℕ). F' (follow w v (bit h x) (W i)) x) (sym (height_is i l))
        ∙ ap (λ (k : ℕ). F' k x) (sym q.3)
        ∙ rw (z, edge_node c i l s);
  }
    where
      F' : ℕ → ℕ → Bool
      F' = meaning w v (names op)

  -- so the sheet holds a diagram
  pub pairs_diagram : 32 * P ≤ length sheet → n ≤ 63 → HoldsDiagram sheet P n count 0
  pairs_diagram long few = record {
    long = long;
    few_settings = few;
    nodes = record { few = A.few; loose = pairs_loose; flags = λ i l z. ((Y.ready i l).flag_is (omega (arith, height_is i l))).low };
    inside = A.begins.0;
    named = pairs_named;
  }

  -- the edge to the first node permits what is named
  pub first_means : b < 131072 → (x : ℕ) → along F 0 x ≡ combination op (under w a) (under v b) x
  unfolding along flip meaning combination
  first_means small x = rw (A.begins.1, first_of_pair a b small, second_of_pair a b small)
