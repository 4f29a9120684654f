-- The nodes of a loose table that its root leads to, as a diagram in a sheet: what it means. Assumes nothing.
use Prim.Native.Nat.{ℕ, zero, suc, ◌+◌, ◌*◌, ◌/◌, ◌%◌, ◌≤◌, ◌<◌}
use mathlib.Core.Path.{◌≡◌, refl, sym, ap, ◌∙◌}
use mathlib.Core.Bool.{Bool, true, cond}
use mathlib.Core.List.{List}
use native.Mathlib.Omega.{arith}
use lib.Dec.{eqb}
use lib.ListN.{length}
use borrow.Author.Tests.{eq-eqb, ne_eqb}
use Rattle.words.specs.Words.{word_at}
use Rattle.words.proofs.Cases.{less, same, more, tri}
use Rattle.diagram.specs.Format.{Words, root, height}
use Rattle.diagram.specs.Meaning.{bit, branch, flip, holds, plain, under, permitted}
use Rattle.diagram.specs.Answer.{Answer}
use Rattle.diagram.specs.Ordered.{LooseRecords}
use Rattle.diagram.specs.Reading.{IsHeader, side}
use Rattle.diagram.proofs.Paths.{loose_height, loose_step}
use Rattle.reducing.specs.Levels.{Loose, Named, Means}
use Rattle.reducing.specs.Inner.{height_of, edge_of, result_of}
use Rattle.tables.proofs.Writes.{writes_same, same_count}
use Rattle.compiling.specs.Inner.{HoldsDiagram, along, WritesRoot}
use Rattle.gathering.specs.Inner.{LooseWithin, laid, Reached}
use Rattle.loose.specs.Inner.{Loosely}
use Rattle.tightening.specs.Inner.{Tightens}

module _ (w : Words) (n N : ℕ) (D : LooseRecords w n N) (sheet : List ℕ) (v : ℕ) (inside : v ≤ N) (R : Reached w (word_at sheet) (N + 1) v) where
  abbrev P : ℕ
  P = N + 1

  abbrev W : ℕ → ℕ
  W = word_at sheet

  -- a node that lies there is none but one of the table's records
  lower : (b : Bool) (i : ℕ) → i < P → 0 < laid W P i → height w (side w b i / 2) < height w i
  lower b zero l t = absurd (omega (arith, R.gathered.sink))
  lower b (suc i) l t = loose_height w n N D b i (omega arith)

  low : (i : ℕ) → i < P → height_of W P i ≤ n
  low i l = elim (tri 0 (laid W P i)) [
    | less t ↦ go i l t (R.gathered.height_is i l t)
    | same t ↦ omega arith
    | more t ↦ absurd (omega arith)
  ]
    where
      go : (i : ℕ) → i < P → 0 < laid W P i → laid W P i ≡ height w i → laid W P i ≤ n
      go zero l t e = absurd (omega (arith, R.gathered.sink))
      go (suc i) l t e = omega (arith, D.low i (omega arith))

  -- the node of an edge is no higher in the sheet than in the table
  child_low : (b : Bool) (i : ℕ) → i < P → 0 < laid W P i → laid W P (side w b i / 2) ≤ height w (side w b i / 2)
  child_low b i l t =
      let c = side w b i / 2 in
      elim (tri 0 (laid W P c)) [ less q ↦ omega (arith, R.gathered.height_is c (R.gathered.inside b i l t) q) | same q ↦ omega arith | more q ↦ absurd (omega arith) ]

  pub nodes_loose : Loose (height_of W P) (edge_of W P) n P
  nodes_loose = record {
    low = low;
    inside = λ b i l t. rw (R.gathered.edge_is b i l t) (R.gathered.inside b i l t);
    lower = λ b i l t. rw (R.gathered.edge_is b i l t) (omega (arith, child_low b i l t, lower b i l t, R.gathered.height_is i l t));
  }

  nodes_named : Named (height_of W P) (edge_of W P) P v
  nodes_named i l t n =
      let m = R.named i l t n in
      (m.0, m.1, m.2, m.3, ap (λ (e : ℕ). e / 2) (R.gathered.edge_is m.1 m.0 m.2 m.3) ∙ m.4)

  -- so the sheet holds a diagram
  pub nodes_diagram : 32 * P ≤ length sheet → n ≤ 63 → HoldsDiagram sheet P n P v
  nodes_diagram long few = record {
    long = long;
    few_settings = few;
    nodes = record { few = omega arith; loose = nodes_loose; flags = λ i l z. omega (arith, R.gathered.free i l z) };
    inside = omega arith;
    named = nodes_named;
  }

  -- a node permits what it does in the table, or everything if it does not lie there
  abbrev F : ℕ → ℕ → Bool
  F i x = cond (eqb (laid W P i) 0) true (plain w i x)

  plain_sink : (x : ℕ) → plain w 0 x ≡ true
  unfolding plain holds height
  plain_sink x = refl

  -- the sink, and a node that lies there, as in the table
  there : (i x : ℕ) → (0 < i → 0 < laid W P i) → F i x ≡ plain w i x
  there zero x h = ap (λ (b : Bool). cond b true (plain w 0 x)) (eq-eqb (laid W P 0) 0 R.gathered.sink) ∙ sym (plain_sink x)
  there (suc i) x h = ap (λ (b : Bool). cond b true (plain w (suc i) x)) (ne_eqb (laid W P (suc i)) 0 (λ e. omega (arith, h (omega arith))))

  step : (i : ℕ) → i < P → 0 < laid W P i → (x : ℕ) → plain w i x ≡ under w (branch w i x) x
  step zero l t x = absurd (omega (arith, R.gathered.sink))
  step (suc i) l t x = loose_step w n N D i x (omega arith)

  pub nodes_mean : Means (height_of W P) (edge_of W P) (result_of W P) F P
  unfolding under branch flip
  nodes_mean = record {
    sink = λ i l z x. rw (z, R.gathered.free i l z);
    step = λ i l t x. let c = bit (height w i) x in let e = side w c i in
        there i x (λ _. t) ∙ step i l t x
        ∙ ap (flip (e % 2)) (sym (there (e / 2) x (R.gathered.closed c i l t)))
        ∙ rw (R.gathered.height_is i l t, R.gathered.edge_is c i l t);
  }

  -- and the root edge permits what it does there
  pub root_permits : root w / 2 ≡ v → (x : ℕ) → along F (root w) x ≡ permitted w x
  unfolding along permitted under
  root_permits e x = ap (flip (root w % 2)) (there (root w / 2) x (rw e R.here))

-- a loose table, by its header
module _ (t : List ℕ) (n N : ℕ) (L : Loosely t n N) {e : ℕ} (H : IsHeader (word_at t) n N e) (v : ℕ) (v-is : v ≡ e / 2) where
  inside_root : v ≤ N
  inside_root = omega (arith, L.root_node, ap (λ (r : ℕ). r / 2) H.root_is)

  pub loosely_within : LooseWithin t (N + 1) v
  loosely_within = record {
    settings = n;
    nodes = N;
    long = omega (arith, L.long);
    records = L.records;
    places = omega arith;
    inside = inside_root;
  }

  module _ (sheet : List ℕ) where
    -- its gathered nodes are a diagram
    module _ (R : Reached (word_at t) (word_at sheet) (N + 1) v) where
      pub nodes_hold : 32 * (N + 1) ≤ length sheet → HoldsDiagram sheet (N + 1) n (N + 1) (e / 2)
      nodes_hold long = rw (← v-is) (nodes_diagram (word_at t) n N L.records sheet v inside_root R long H.few_settings)

      abbrev G : ℕ → ℕ → Bool
      G = F (word_at t) n N L.records sheet v inside_root R

      permits : (x : ℕ) → along G e x ≡ permitted (word_at t) x
      permits x = ap (λ (r : ℕ). along G r x) H.root_is ∙ root_permits (word_at t) n N L.records sheet v inside_root R (ap (λ (r : ℕ). r / 2) (sym H.root_is) ∙ sym v-is) x

      -- whose table is that of what the loose table permits
      pub nodes_written : (out : List ℕ) (answer : Answer ℕ) (out' : List ℕ) → WritesRoot (word_at sheet) (N + 1) n (N + 1) e out answer out'
          → Tightens n N (permitted (word_at t)) out answer out'
      nodes_written out answer out' K =
          let m = nodes_mean (word_at t) n N L.records sheet v inside_root R in
          let c = K.counts G m R.gathered.sink (omega (arith, L.few)) in
          record {
            writes = writes_same n (along G e) (permitted (word_at t)) (λ x l. permits x) (K.writes G m);
            not_more = (c.0, omega (arith, c.1), same_count n (along G e) (permitted (word_at t)) (λ x l. permits x) c.0 c.2);
          }
