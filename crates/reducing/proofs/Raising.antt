-- One height more is numbered, by what the numbering of its nodes leaves. Assumes nothing.
use Prim.Native.Nat.{ℕ, zero, suc, ◌+◌, ◌-◌, ◌*◌, ◌/◌, ◌%◌, ◌≤◌, ◌<◌}
use mathlib.Core.Path.{◌≡◌, refl, sym, ap, ◌∙◌}
use mathlib.Core.Bool.{Bool, true, false}
use native.Mathlib.Omega.{arith}
use Rattle.words.proofs.Cases.{less, same, more, tri}
use Rattle.diagram.specs.Format.{high_field}
use Rattle.diagram.proofs.Fields.{word_below}
use Rattle.numbering.specs.Numbered.{Good, dropped, made}
use Rattle.numbering.proofs.Images.{normal_high}
use Rattle.sorting.specs.Sorting.{Strict}
use Rattle.reducing.specs.Levels.{Origin}
use Rattle.reducing.specs.Inner.{edge_of, result_of, records_of}
use Rattle.reducing.specs.Steps.{Nodes, count_of, Staged, Ready, side_of, Candidate}
use Rattle.reducing.proofs.Collecting.{through_as, ready_room, ready_small, ready_node, ready_side}
use Rattle.reducing.proofs.Giving.{good_as}

-- the words c to r - 1 of W' are the records of the nodes of height h, each once, and those have their numbers; words before c, other nodes and the lists stay as in W
pub record Leaves (D : Nodes) (W W' : ℕ → ℕ) (P c h r : ℕ) : Type 0 where
  pub up : c ≤ r
  pub room : r ≤ c + count_of D h D.count
  pub strict : Strict W' c r
  pub came : (k : ℕ) → c ≤ k → k < r → Candidate false D W P h (W' k)
  pub given : (i : ℕ) → i < D.count → D.height i ≡ h → Good h (side_of D W P true i) (side_of D W P false i) (suc (W' (P + i))) (records_of W') r
  pub before : (k : ℕ) → k < c → W' k ≡ W k
  pub kept : (b : Bool) (i : ℕ) → i < D.count → (D.height i ≡ h → ⊥) → edge_of W' P b i ≡ edge_of W P b i
  pub links : (i : ℕ) → i < D.count → W' (2 * P + i) ≡ W (2 * P + i)

module _ {few : Bool} (D : Nodes) (W W' : ℕ → ℕ) (P c h first r : ℕ) (R : Ready few D W P c h first) (N : Leaves D W W' P c h r) where
  abbrev g : ℕ → ℕ
  g = D.height

  abbrev S : Staged D W P c (h - 1)
  S = R.staged

  record_stays : (k : ℕ) → k ≤ c → records_of W' k ≡ records_of W k
  unfolding records_of
  record_stays zero l = refl
  record_stays (suc k) l = N.before k l

  result_stays : (j : ℕ) → j < D.count → (g j ≡ h → ⊥) → W' (P + j) ≡ W (P + j)
  result_stays = N.kept true

  side_stays : (b : Bool) (i : ℕ) → i < D.count → 0 < g i → g i ≤ h → side_of D W' P b i ≡ side_of D W P b i
  side_stays b i l p q =
      let n = ready_node D W P c h first R b i l q p in
      through_as (result_of W P) (result_of W' P) (D.edge b i) (result_stays (D.edge b i / 2) n.0 (λ e. omega (arith, n.1)))

  -- a record of a lower height, and one of height h
  record_low : (k : ℕ) → k ≤ c → high_field (records_of W k) < h
  unfolding records_of
  record_low zero l = unfold high_field in omega (arith, R.some)
  record_low (suc k) l =
      let o = S.levelled.origin k l in
      let b = o.low in
      let s : (b : Bool) → side_of D W P b o.node < 131072 = λ b. ready_side D W P c h first R b o.node o.inside (omega arith) o.tall in
      omega (arith, R.some, ap high_field o.makes ∙ normal_high (g o.node) (side_of D W P true o.node) (side_of D W P false o.node) (omega (arith, s true)) (omega (arith, s false)))

  record_high : (k : ℕ) → c ≤ k → k < r → high_field (W' k) ≡ h
  record_high k a b =
      let o = N.came k a b in
      let v = o.level in
      let s : (b : Bool) → side_of D W P b o.node < 131072 = λ b. ready_side D W P c h first R b o.node o.inside (omega arith) (omega (arith, R.some)) in
      ap high_field o.is ∙ normal_high h (side_of D W P true o.node) (side_of D W P false o.node) (omega (arith, s true)) (omega (arith, s false))

  rises : (k : ℕ) → k < r → records_of W' k < records_of W' (suc k)
  unfolding records_of Strict
  rises k l = elim (tri k c) [
    | less q ↦ rw (record_stays k (omega arith), N.before k q) (S.levelled.rises k q)
    | same q ↦ rw (record_stays k (omega arith)) (word_below (records_of W k) (W' k) (omega (arith, record_low k (omega arith), record_high k (omega arith) l)))
    | more q ↦ onward k l q
  ]
    where
      onward : (k : ℕ) → k < r → c < k → records_of W' k < W' k
      onward zero l q = absurd (omega arith)
      onward (suc k) l q = N.strict k (suc k) (omega arith) (omega arith) l

  good : (i : ℕ) → i < D.count → 0 < g i → g i ≤ h → Good (g i) (side_of D W' P true i) (side_of D W' P false i) (suc (W' (P + i))) (records_of W') r
  unfolding records_of
  good i l p q =
      rw (side_stays true i l p q, side_stays false i l p q)
      (elim (tri (g i) h) [
        | less m ↦ rw (result_stays i l (λ e. omega arith)) (good_as (S.levelled.good i l p (omega arith)) N.up (λ k a. N.before k a))
        | same m ↦ rw m (N.given i l m)
        | more m ↦ absurd (omega arith)
      ])

  -- a new record stands once
  once : (j k : ℕ) → j < r → c ≤ k → k < r → W' j ≡ W' k → j ≡ k
  unfolding Strict records_of
  once j k l a b e = elim (tri j k) [
    | less q ↦ elim (tri j c) [
      | less m ↦ absurd (omega (arith, record_low (suc j) m, record_high k a b, ap high_field (sym (N.before j m) ∙ e)))
      | same m ↦ absurd (omega (arith, e, N.strict j k (omega arith) q b))
      | more m ↦ absurd (omega (arith, e, N.strict j k (omega arith) q b))
    ]
    | same q ↦ q
    | more q ↦ absurd (omega (arith, e, N.strict k j a q l))
  ]

  -- and its node has its number
  numbered : (k : ℕ) → c ≤ k → k < r → (o : Candidate false D W P h (W' k)) → Good h (side_of D W P true o.node) (side_of D W P false o.node) (suc (W' (P + o.node))) (records_of W') r
      → W' (P + o.node) ≡ 2 * suc k + side_of D W P true o.node % 2
  unfolding records_of
  numbered k a b o (dropped t x) = absurd (o.apart t)
  numbered k a b o (made j l n x e) = omega (arith, x, once j k l a b (e ∙ sym o.is))

  origin_old : (k : ℕ) → k < c → Origin g D.edge (result_of W' P) (records_of W') D.count h k
  origin_old k l =
      let o = S.levelled.origin k l in
      let m = o.low in
      let t = side_stays true o.node o.inside o.tall (omega arith) in
      let e = side_stays false o.node o.inside o.tall (omega arith) in
      record {
        node = o.node;
        inside = o.inside;
        tall = o.tall;
        low = omega arith;
        apart = rw (t, e) o.apart;
        number = rw (result_stays o.node o.inside (λ q. omega (arith, R.some)), t) o.number;
        makes = rw (t, e) (record_stays (suc k) l ∙ o.makes);
      }

  origin_new : (k : ℕ) → c ≤ k → k < r → Origin g D.edge (result_of W' P) (records_of W') D.count h k
  unfolding records_of
  origin_new k a b =
      let o = N.came k a b in
      let v = o.level in
      let t = side_stays true o.node o.inside (omega (arith, R.some)) (omega arith) in
      let e = side_stays false o.node o.inside (omega (arith, R.some)) (omega arith) in
      record {
        node = o.node;
        inside = o.inside;
        tall = omega (arith, R.some);
        low = omega arith;
        apart = rw (t, e) o.apart;
        number = rw t (numbered k a b o (N.given o.node o.inside v));
        makes = rw (t, e, v) o.is;
      }

  origin : (k : ℕ) → k < r → Origin g D.edge (result_of W' P) (records_of W') D.count h k
  origin k l = elim (tri k c) [ less q ↦ origin_old k q | same q ↦ origin_new k (omega arith) l | more q ↦ origin_new k (omega arith) l ]

  pub raised : Staged D W' P r h
  raised = record {
    few = S.few;
    loose = S.loose;
    levelled = record {
      base = unfold records_of in refl;
      sinks = λ i l e. rw (result_stays i l (λ q. omega (arith, R.some))) (S.levelled.sinks i l e);
      small = λ i l m. rw (result_stays i l (λ q. omega arith)) (ready_small D W P c h first R i l m);
      good = good;
      rises = rises;
      origin = origin;
    };
    room = omega (arith, N.room, ready_room D W P c h first R);
    flags = λ i l e. result_stays i l (λ q. omega (arith, R.some)) ∙ S.flags i l e;
    waits = λ b i l m. N.kept b i l (λ e. omega arith) ∙ S.waits b i l (omega arith);
    links = λ i l. N.links i l ∙ S.links i l;
  }
