-- One more node of a diagram is numbered. Assumes nothing.
use Prim.Native.Nat.{ℕ, suc, ◌+◌, ◌-◌, ◌*◌, ◌/◌, ◌%◌, ◌≤◌, ◌<◌}
use mathlib.Core.Path.{◌≡◌, refl, sym, ap, ap₂, subst, ◌∙◌}
use mathlib.Core.Logic.{◌⊎◌, inl, inr}
use mathlib.Core.Bool.{Bool, true, false}
use native.Mathlib.Omega.{arith}
use Rattle.words.proofs.Cases.{less, same, more, tri}
use Rattle.words.proofs.Stores.{Updated, update, update_is}
use Rattle.diagram.specs.Format.{Words, height, then_edge, else_edge}
use Rattle.diagram.specs.Ordered.{Ordered}
use Rattle.diagram.proofs.Paths.{side, side_node}
use Rattle.numbering.specs.Renewal.{image, normal}
use Rattle.numbering.specs.Numbered.{Good, dropped, made, Source, Numbered}
use Rattle.numbering.proofs.Images.{image_small, image_same}

-- Done' is Done and node v, which was not done
pub record Adds (Done Done' : ℕ → Type 0) (v : ℕ) : Type 0 where
  pub fresh : Done v → ⊥
  pub old : (u : ℕ) → Done u → Done' u
  pub new : Done' v
  pub only : (u : ℕ) → Done' u → (u ≡ v) ⊎ Done u

-- a node stays good while records are added
grow : {h t e x : ℕ} {L : Words} {c : ℕ} (L' : Words) (c' : ℕ) → c ≤ c' → ((i : ℕ) → i ≤ c → L' i ≡ L i) → Good h t e x L c → Good h t e x L' c'
grow L' c' l a (dropped p y) = dropped p y
grow L' c' l a (made i m p y f) = made i (omega arith) p y (a (suc i) m ∙ f)

-- node v + 1 gets x; no node that is done leads to it
module _ (R W W' L : Words) (n M c v x : ℕ) (Done Done' : ℕ → Type 0) (D : Ordered R n M) (S : Numbered R W L M c Done) (inside : v < M)
    (U : Updated W W' (suc v) x) (A : Adds Done Done' (suc v)) (alone : (u : ℕ) → u < M → 0 < W (suc u) → Done (suc u) → (b : Bool) → side R b (suc u) / 2 ≡ suc v → ⊥) where
  abbrev t : ℕ
  t = image W (then_edge R (suc v))

  abbrev e : ℕ
  e = image W (else_edge R (suc v))

  -- its own edges' images stay
  own_same : (b : Bool) → image W' (side R b (suc v)) ≡ image W (side R b (suc v))
  own_same b = image_same W W' (suc v) x U (side R b (suc v)) (λ q. omega (arith, side_node R n M D b v inside))

  apart : (u : ℕ) → (u ≡ v → ⊥) → suc u ≡ suc v → ⊥
  apart u n q = n (omega arith)

  module _ (L' : Words) (c' : ℕ) (more-records : c ≤ c') (fits : x ≤ 2 * c' + 2) (as_before : (i : ℕ) → i ≤ c → L' i ≡ L i)
      (right : Good (height R (suc v)) t e x L' c') (rising : (i : ℕ) → c ≤ i → i < c' → L' i < L' (suc i))
      (because : (i : ℕ) → c ≤ i → i < c' → (t ≡ e → ⊥) × (x ≡ suc (2 * suc i + t % 2)) × (L' (suc i) ≡ normal (height R (suc v)) t e)) where
    -- a node that was done stays good
    good_before : (u : ℕ) → u < M → (u ≡ v → ⊥) → 0 < W' (suc u) → Done' (suc u) → Good (height R (suc u)) (image W' (then_edge R (suc u))) (image W' (else_edge R (suc u))) (W' (suc u)) L' c'
    good_before u l n k d =
        let k₀ : 0 < W (suc u) = omega (arith, U.other (suc u) (apart u n)) in
        let d₀ : Done (suc u) = elim (A.only (suc u) d) [ inl q ↦ absurd (apart u n q) | inr q ↦ q ] in
        let a = alone u l k₀ d₀ in
        rw (image_same W W' (suc v) x U (then_edge R (suc u)) (a true), image_same W W' (suc v) x U (else_edge R (suc u)) (a false), U.other (suc u) (apart u n))
        (grow L' c' more-records as_before (S.good u l k₀ d₀))

    -- a new record has its node, and the others keep theirs
    fresh_source : (i : ℕ) → c ≤ i → i < c' → Source R W' L' M Done' i
    fresh_source i p l =
        let b = because i p l in
        record {
          node = v;
          inside = inside;
          live = rw U.here (omega (arith, b.1));
          done = A.new;
          apart = λ q. b.0 (sym (own_same true) ∙ q ∙ own_same false);
          number = U.here ∙ b.1 ∙ ap (λ (a : ℕ). suc (2 * suc i + a % 2)) (sym (own_same true));
          makes = b.2 ∙ ap₂ (λ (a b : ℕ). normal (height R (suc v)) a b) (sym (own_same true)) (sym (own_same false));
        }

    old_source : (i : ℕ) → i < c → Source R W' L' M Done' i
    old_source i q =
        let s = S.source i q in
        let n : s.node ≡ v → ⊥ = λ p. A.fresh (subst (λ (u : ℕ). Done (suc u)) p s.done) in
        let a = alone s.node s.inside s.live s.done in
        let i1 = image_same W W' (suc v) x U (then_edge R (suc s.node)) (a true) in
        let i2 = image_same W W' (suc v) x U (else_edge R (suc s.node)) (a false) in
        let w = U.other (suc s.node) (apart s.node n) in
        record {
          node = s.node;
          inside = s.inside;
          live = rw w s.live;
          done = A.old (suc s.node) s.done;
          apart = rw (i1, i2) s.apart;
          number = rw (i1, w) s.number;
          makes = rw (i1, i2, as_before (suc i) q) s.makes;
        }

    assigned : Numbered R W' L' M c' Done'
    assigned = record {
      sink = U.other 0 (λ q. omega arith) ∙ S.sink;
      base = as_before 0 (omega arith) ∙ S.base;
      small = λ u l. elim (tri u (suc v)) [
        | less q ↦ omega (arith, U.other u (λ p. omega arith), S.small u l)
        | same q ↦ rw q (omega (arith, U.here))
        | more q ↦ omega (arith, U.other u (λ p. omega arith), S.small u l)
      ];
      good = λ u l k d. elim (tri u v) [
        | less q ↦ good_before u l (λ p. omega arith) k d
        | same q ↦ rw (q, own_same true, own_same false, U.here) right
        | more q ↦ good_before u l (λ p. omega arith) k d
      ];
      rises = λ i l. elim (tri i c) [
        | less q ↦ rw (as_before i (omega arith), as_before (suc i) q) (S.rises i q)
        | same q ↦ rising i (omega arith) l
        | more q ↦ rising i (omega arith) l
      ];
      source = λ i l. elim (tri i c) [ less q ↦ old_source i q | same q ↦ fresh_source i (omega arith) l | more q ↦ fresh_source i (omega arith) l ];
    }

  -- its then-edge leads to a record
  t_lt : t < 2 * (c + 1)
  t_lt = let a = side_node R n M D true v inside in image_small W (then_edge R (suc v)) (c + 1) (omega (arith, S.small (then_edge R (suc v) / 2) (omega arith)))

  -- its edges become equal: it becomes that edge
  pub assign_dropped : t ≡ e → x ≡ suc t → Numbered R W' L M c Done'
  assign_dropped q y = assigned L c (omega arith) (omega (arith, t_lt)) (λ i l. refl) (dropped q y) (λ i p l. absurd (omega arith)) (λ i p l. absurd (omega arith))

  -- its record is the last one
  pub assign_repeated : (t ≡ e → ⊥) → 0 < c → L c ≡ normal (height R (suc v)) t e → x ≡ suc (2 * c + t % 2) → Numbered R W' L M c Done'
  assign_repeated q l f y =
      let s : suc (c - 1) ≡ c = omega arith in
      assigned L c (omega arith) (omega arith) (λ i l. refl) (made (c - 1) (omega arith) q (omega arith) (ap L s ∙ f)) (λ i p l. absurd (omega arith)) (λ i p l. absurd (omega arith))

  -- its record is a new one
  pub assign_new : (t ≡ e → ⊥) → L c < normal (height R (suc v)) t e → x ≡ suc (2 * suc c + t % 2)
      → Numbered R W' (update L (suc c) (normal (height R (suc v)) t e)) M (suc c) Done'
  assign_new q l y =
      assigned L' (suc c) (omega arith) (omega arith) (λ i l. kept i (omega arith)) (made c (omega arith) q y now) (λ i p l. rising i (omega arith)) (λ i p l. why i (omega arith))
    where
      z : ℕ
      z = normal (height R (suc v)) t e

      L' : Words
      L' = update L (suc c) z

      now : L' (suc c) ≡ z
      now = (update_is L (suc c) z).here

      kept : (i : ℕ) → i < suc c → L' i ≡ L i
      kept i m = (update_is L (suc c) z).other i (λ p. omega arith)

      rising : (i : ℕ) → i ≡ c → L' i < L' (suc i)
      rising i p = rw p (rw (now, kept c (omega arith)) l)

      why : (i : ℕ) → i ≡ c → (t ≡ e → ⊥) × (x ≡ suc (2 * suc i + t % 2)) × (L' (suc i) ≡ z)
      why i p = rw p (q, y, now)
