-- Nodes numbered height by height: more than 65,535 records, be it of the lower heights alone, are too many for a table of what the top node means. Assumes nothing.
use Prim.Native.Nat.{ℕ, zero, suc, ◌-◌, ◌/◌, ◌%◌, ◌^◌, ◌≤◌, ◌<◌}
use mathlib.Core.Path.{◌≡◌, refl, sym, ap, subst, ◌∙◌}
use mathlib.Core.Bool.{Bool}
use mathlib.Core.List.{List}
use mathlib.Core.Option.{Option, none, some}
use native.Mathlib.Nat.{le_refl, mod-lt}
use native.Mathlib.Omega.{arith}
use lib.Pow.{pow_pos}
use Rattle.words.specs.Words.{word_at}
use Rattle.diagram.specs.Format.{Words, root, height}
use Rattle.diagram.specs.Meaning.{bit, flip, holds, plain, under, permitted}
use Rattle.diagram.specs.Answer.{refusal}
use Rattle.diagram.specs.Ordered.{Ordered, Reduced, Accepted}
use Rattle.diagram.specs.Reading.{turn, cofactor}
use Rattle.diagram.proofs.Bits.{bit_mod, with_bit, bit_with, with_mod}
use Rattle.diagram.proofs.Paths.{height_le_settings}
use Rattle.diagram.proofs.Edges.{turn_node, turn_under}
use Rattle.diagram.proofs.Local.{under_mod}
use Rattle.diagram.proofs.Cofactor.{cofactor_low, cofactor_with, lowered}
use Rattle.diagram.proofs.Unique.{same_node}
use Rattle.diagram.proofs.Canonical.{Twin, twins_le}
use Rattle.diagram.proofs.Accept.{accepts_accepted}
use Rattle.tables.specs.Table.{table_of}
use Rattle.tables.specs.Writing.{fitted}
use Rattle.tables.proofs.TableFor.{TableFor}
use Rattle.tables.proofs.TableLaws.{table_of-some}
use Rattle.numbering.proofs.Images.{flip_twice}
use Rattle.reducing.specs.Levels.{Loose, Named, Means, Levelled}
use Rattle.reducing.proofs.Heights.{upward, downward}
use Rattle.reducing.proofs.Records.{levelled_reduced}
use Rattle.reducing.proofs.Meaning.{levelled_means}

-- an edge of w, of N nodes, that permits what f does
record EdgeFor (w : Words) (N : ℕ) (f : ℕ → Bool) : Type 0 where
  edge : ℕ
  inside : edge / 2 ≤ N
  means : (x : ℕ) → under w edge x ≡ f x

module _ (g : ℕ → ℕ) (E : Bool → ℕ → ℕ) (n M : ℕ) (D : Loose g E n M) (s : ℕ → ℕ) (F : ℕ → ℕ → Bool) (means : Means g E s F M) where
  -- settings above a node's height do not matter
  means_mod : (i : ℕ) → i < M → (H x : ℕ) → g i ≤ H → F i (x % 2 ^ H) ≡ F i x
  means_mod = upward g E n M D (λ i. (H x : ℕ) → g i ≤ H → F i (x % 2 ^ H) ≡ F i x) (λ i m e H x q. means.sink i m e (x % 2 ^ H) ∙ sym (means.sink i m e x)) λ i m t f H x q.
      let b = bit (g i) x in
      means.step i m t (x % 2 ^ H) ∙ ap (λ (c : Bool). flip (E c i % 2) (F (E c i / 2) (x % 2 ^ H))) (bit_mod (g i) H x t q)
      ∙ ap (flip (E b i % 2)) (f b H x (omega (arith, D.lower b i m t))) ∙ sym (means.step i m t x)

  -- with its own setting on or off, a node permits what the edge of that side does
  means_with : (b : Bool) (j : ℕ) → j < M → 0 < g j → (x : ℕ) → F j (with_bit b (g j) x) ≡ flip (E b j % 2) (F (E b j / 2) x)
  means_with b j m t x =
      let y = with_bit b (g j) x in
      let v = E b j / 2 in
      let i = D.inside b j m t in
      let l = D.lower b j m t in
      means.step j m t y ∙ ap (λ (c : Bool). flip (E c j % 2) (F (E c j / 2) y)) (bit_with b (g j) x)
      ∙ ap (flip (E b j % 2)) (sym (means_mod v i (g j - 1) y (omega arith)) ∙ ap (F v) (with_mod b (g j) x) ∙ means_mod v i (g j - 1) x (omega arith))

  -- a diagram that has an edge for a node has edges for the nodes of its edges: cofactors of the edge, lowered to the node's height
  child_edge : (w : Words) (N : ℕ) → Ordered w n N → (b : Bool) (j : ℕ) → j < M → 0 < g j → EdgeFor w N (F j) → EdgeFor w N (F (E b j / 2))
  child_edge w N O b j m t a =
      let p = lowered w n N O (g j) n a.edge a.inside (omega (arith, height_le_settings w n N O (a.edge / 2) a.inside)) in
      let e = cofactor w (g j) b p.edge in
      let l = cofactor_low w n N O p.edge (g j) p.inside p.low t b in
      let f = E b j % 2 in
      let i = p.inside in
      record {
        edge = turn f e;
        inside = rw (turn_node f e) (omega arith);
        means = λ x. let y = with_bit b (g j) x in
            turn_under w f e x
            ∙ ap (flip f) (sym (cofactor_with w n N O p.edge (g j) p.inside p.low t b x) ∙ p.means y ∙ a.means (y % 2 ^ g j) ∙ means_mod j m (g j) y (le_refl (g j)) ∙ means_with b j m t x)
            ∙ flip_twice f (F (E b j / 2) x);
      }

module _ (g : ℕ → ℕ) (E : Bool → ℕ → ℕ) (r : ℕ → ℕ) (L : Words) (n M c h : ℕ) (D : Loose g E n M) (S : Levelled g E r L M c h) (low : h ≤ n)
    (s : ℕ → ℕ) (F : ℕ → ℕ → Bool) (means : Means g E s F M) (kept : (i : ℕ) → i < M → g i ≡ 0 → s i ≡ r i) where
  -- where a reduced diagram has an edge for every node above height 0, each record has a twin in it
  record_twin : (w : Words) (N : ℕ) → Reduced w n N → ((i : ℕ) → i < M → 0 < g i → EdgeFor w N (F i)) → (k : ℕ) → k ≤ c → Twin L w N k
  unfolding plain holds height
  record_twin w N R f zero l = record { node = 0; inside = omega arith; means = λ x. refl }
  record_twin w N R f (suc k) l =
      let o = S.origin k l in
      let v = o.node in
      let a = f v o.inside o.tall in
      let e : r v / 2 ≡ suc k = omega (arith, o.number) in
      subst (Twin L w N) e (record {
        node = a.edge / 2;
        inside = a.inside;
        means = same_node (levelled_reduced g E r L n M c h D S low) R (r v) a.edge (omega arith) a.inside
            (λ x. levelled_means g E r L n M c h D S low s F means kept v o.inside o.low x ∙ sym (a.means x));
      })

module _ (g : ℕ → ℕ) (E : Bool → ℕ → ℕ) (r : ℕ → ℕ) (L : Words) (n M c h : ℕ) (D : Loose g E n M) (S : Levelled g E r L M c h) (low : h ≤ n) (many : 65535 < c)
    (top : ℕ) (inside : top < M) (named : Named g E M top) (s : ℕ → ℕ) (F : ℕ → ℕ → Bool) (means : Means g E s F M) (kept : (i : ℕ) → i < M → g i ≡ 0 → s i ≡ r i)
    (f : ℕ) (P : ℕ → Bool) (permits : (x : ℕ) → x < 2 ^ n → flip f (F top x) ≡ P x) where
  -- no accepted table permits the set: it would have as many nodes
  no_table : (t : List ℕ) (N : ℕ) → TableFor n P t N → ⊥
  unfolding permitted
  no_table t N T =
      omega (arith, A.few, twins_le (levelled_reduced g E r L n M c h D S low) (record_twin g E r L n M c h D S low s F means kept w N R edges))
    where
      A : Accepted t n N
      A = accepts_accepted t n N T.accepts

      w : Words
      w = word_at t

      R : Reduced w n N
      R = A.proper.reduced

      O : Ordered w n N
      O = R.ordered

      -- the root edge, turned over if P is the opposite, is for the top node
      first : EdgeFor w N (F top)
      first =
          let l : root w / 2 ≤ N = omega (arith, A.root_node) in
          record {
            edge = turn f (root w);
            inside = rw (turn_node f (root w)) l;
            means = λ x. let b = mod-lt x (pow_pos n) in
                turn_under w f (root w) x
                ∙ ap (flip f) (sym (under_mod w n N O (root w) n x l (height_le_settings w n N O (root w / 2) l)) ∙ T.permits (x % 2 ^ n) b ∙ sym (permits (x % 2 ^ n) b))
                ∙ flip_twice f (F top (x % 2 ^ n)) ∙ means_mod g E n M D s F means top inside n x (D.low top inside);
          }

      -- so there is one for every node above height 0
      edges : (i : ℕ) → i < M → 0 < g i → EdgeFor w N (F i)
      edges = downward g E n M D (λ i. EdgeFor w N (F i)) top named first (child_edge g E n M D s F means w N O)

  -- so the answer is 16: too many nodes
  pub levelled_16 : (room : ℕ) → fitted room (table_of n P) ≡ refusal 16 0
  unfolding fitted
  levelled_16 room = go (table_of n P) refl
    where
      go : (o : Option (List ℕ)) → table_of n P ≡ o → fitted room o ≡ refusal 16 0
      go none e = refl
      go (some t) e = let a = table_of-some n P t e in absurd (no_table t a.0 a.2)
