-- The parts share the setups out: each setup is in one part, and a part's setups are numbered as in the whole. Assumes nothing.
use Prim.Native.Nat.{ℕ, zero, suc, ◌+◌, ◌^◌, ◌≤◌, ◌<◌}
use mathlib.Core.Path.{◌≡◌, sym, ◌∙◌}
use mathlib.Core.Bool.{Bool, true}
use native.Mathlib.Omega.{arith}
use Rattle.words.proofs.Cases.{Tri, less, same, more, tri}
use Rattle.diagram.specs.Count.{count_below, select}
use Rattle.diagram.proofs.CountLaws.{count_mono_lt}
use Rattle.diagram.proofs.Select.{select_of, ranked}
use Rattle.division.specs.Span.{size, start, in_part}
use Rattle.division.proofs.SpanLaws.{start_zero, start_next, start_end, start_mono}
use Rattle.division.proofs.Within.{within_ranked, ranked_within, within_count, within_selected}

-- rank r of c is in part j of k
pub record Spans (c k j r : ℕ) : Type 0 where
  pub from : start c k j ≤ r
  pub upto : r < start c k j + size c k j

module _ (c k : ℕ) where
  -- a part ends within the setups
  pub part_inside : (j : ℕ) → j < k → start c k j + size c k j ≤ c
  part_inside j l = omega (arith, start_next c k j, start_mono c k (suc j) k l, start_end c k (omega arith))

  -- the ranks below the start of part m are in the parts before it
  before : (m r : ℕ) → r < start c k m → (j : ℕ) × (j < m) × Spans c k j r
  before zero r l = absurd (omega (arith, start_zero c k))
  before (suc m) r l = go (tri r (start c k m)) (λ q. before m r q)
    where
      here : start c k m ≤ r → (j : ℕ) × (j < suc m) × Spans c k j r
      here q = (m, omega arith, record { from = q; upto = omega (arith, start_next c k m) })

      go : Tri r (start c k m) → (r < start c k m → (j : ℕ) × (j < m) × Spans c k j r) → (j : ℕ) × (j < suc m) × Spans c k j r
      go (less q) f = let s = f q in (s.0, omega (arith, s.1), s.2)
      go (same q) f = here (omega arith)
      go (more q) f = here (omega arith)

  -- every rank is in a part
  pub part_of : (r : ℕ) → 0 < k → r < c → (j : ℕ) × (j < k) × Spans c k j r
  part_of r p l = before k r (omega (arith, start_end c k p))

  -- ... and in one only
  pub part_one : (i j r : ℕ) → Spans c k i r → Spans c k j r → i ≡ j
  part_one i j r a b =
      elim (tri i j) [
        | less q ↦ omega (arith, start_next c k i, start_mono c k (suc i) j q, a.upto, b.from)
        | same q ↦ q
        | more q ↦ omega (arith, start_next c k j, start_mono c k (suc j) i q, b.upto, a.from)
      ]

-- k parts of the setups of n settings that P permits
module _ (k n : ℕ) (P : ℕ → Bool) where
  abbrev c : ℕ
  c = count_below P (2 ^ n)

  -- every permitted setup is in a part
  pub part_some : (x : ℕ) → 0 < k → x < 2 ^ n → P x ≡ true → (j : ℕ) × (j < k) × (in_part k j n P x ≡ true)
  unfolding in_part
  part_some x p l e =
      let s = part_of c k (count_below P x) p (count_mono_lt P e l) in
      let j = s.0 in
      (j, s.1, ranked_within P (start c k j) (size c k j) x (record { passes = e; from = s.2.from; upto = s.2.upto }))

  -- ... and in one only
  pub part_once : (i j x : ℕ) → in_part k i n P x ≡ true → in_part k j n P x ≡ true → i ≡ j
  unfolding in_part
  part_once i j x e f =
      let a = within_ranked P (start c k i) (size c k i) x e in
      let b = within_ranked P (start c k j) (size c k j) x f in
      part_one c k i j (count_below P x) (record { from = a.from; upto = a.upto }) (record { from = b.from; upto = b.upto })

  -- a part has as many setups as its size
  pub part_count : (j : ℕ) → j < k → count_below (in_part k j n P) (2 ^ n) ≡ size c k j
  unfolding in_part
  part_count j l = within_count P (start c k j) (size c k j) (2 ^ n) ∙ omega (arith, part_inside c k j l)

  -- number r of them is number start + r of all
  pub part_setup : (j r : ℕ) → j < k → r < size c k j → select (in_part k j n P) (2 ^ n) r ≡ select P (2 ^ n) (start c k j + r)
  unfolding in_part
  part_setup j r l q =
      let x = ranked P (2 ^ n) (start c k j + r) (omega (arith, part_inside c k j l)) in
      select_of (in_part k j n P) (2 ^ n) r x.0 (within_selected P (start c k j) (size c k j) (2 ^ n) r x.0 q x.1) ∙ sym (select_of P (2 ^ n) (start c k j + r) x.0 x.1)
