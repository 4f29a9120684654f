-- The records of a table are loose exactly if the rules hold field by field. Assumes nothing.
use Prim.Native.Nat.{ℕ, suc, ◌/◌, ◌≤◌, ◌<◌}
use mathlib.Core.Path.{◌≡◌, refl}
use mathlib.Core.Logic.{◌⊎◌, inl, inr}
use mathlib.Core.Bool.{false, ◌||◌}
use native.Mathlib.Omega.{arith}
use lib.Dec.{eqb, ltb, leb}
use borrow.Author.Tests.{ltb-false, leb-false, le-ltb, lt-leb}
use Rattle.words.proofs.Cases.{or_false, join_false, passed}
use Rattle.diagram.specs.Format.{Words, height, then_edge, else_edge}
use Rattle.diagram.specs.Answer.{pass}
use Rattle.diagram.specs.Ordered.{LooseRecords}
use Rattle.diagram.proofs.AnswerLaws.{refused_not, each_all, all_each}
use Rattle.diagram.proofs.Accept.{fits, fitting}
use Rattle.diagram.proofs.Refusals.{Refuses, unless, passes, each_refuses}
use Rattle.loose.specs.Rules.{astray, check_loose_record, check_loose_records}

-- an edge is not astray if it leads to a lower node that there is, and only then
not_astray : (w : Words) (N h e : ℕ) → astray w N h e ≡ false → (e / 2 ≤ N) × (height w (e / 2) < h)
unfolding astray
not_astray w N h e q =
    let a = or_false (ltb N (e / 2)) (leb h (height w (e / 2))) q in
    (ltb-false N (e / 2) a.0, leb-false h (height w (e / 2)) a.1)

found : (w : Words) (N h e : ℕ) → e / 2 ≤ N → height w (e / 2) < h → astray w N h e ≡ false
unfolding astray
found w N h e l m = join_false (le-ltb N (e / 2) l) (lt-leb h (height w (e / 2)) m)

-- what rules 4 and 6 say of record k, taken apart
record Kept (w : Words) (n N k : ℕ) : Type 0 where
  tall : 0 < height w k
  low : height w k ≤ n
  then_found : (then_edge w k / 2 ≤ N) × (height w (then_edge w k / 2) < height w k)
  else_found : (else_edge w k / 2 ≤ N) × (height w (else_edge w k / 2) < height w k)

kept : (w : Words) (n N k : ℕ) → check_loose_record w n N k ≡ pass → Kept w n N k
unfolding check_loose_record
kept w n N k e =
    let h = height w k in
    let a = passed (eqb h 0 || ltb n h) refused_not e in
    let b = passed (astray w N h (then_edge w k) || astray w N h (else_edge w k)) refused_not a.1 in
    let f = fits n h a.0 in
    let m = or_false (astray w N h (then_edge w k)) (astray w N h (else_edge w k)) b.0 in
    record { tall = f.0; low = f.1; then_found = not_astray w N h (then_edge w k) m.0; else_found = not_astray w N h (else_edge w k) m.1 }

-- records that pass are loose
pub passes_loose : (w : Words) (n N : ℕ) → check_loose_records w n N ≡ pass → LooseRecords w n N
unfolding check_loose_records
passes_loose w n N e =
    let all : (k : ℕ) → k < N → Kept w n N (suc k) = λ k l. kept w n N (suc k) (each_all (λ k. check_loose_record w n N (suc k)) N e k l) in
    record {
      tall = λ k l. (all k l).tall;
      low = λ k l. (all k l).low;
      then_node = λ k l. (all k l).then_found.0;
      else_node = λ k l. (all k l).else_found.0;
      then_height = λ k l. (all k l).then_found.1;
      else_height = λ k l. (all k l).else_found.1;
    }

-- records that do not pass are refused by 4 or 6, at one of them
abbrev pub FourOrSix : ℕ → ℕ → ℕ → Type 0
FourOrSix N number place = ((number ≡ 4) ⊎ (number ≡ 6)) × (0 < place) × (place ≤ N)

pub records_refuse : (w : Words) (n N : ℕ) → Refuses (FourOrSix N) (check_loose_records w n N)
unfolding check_loose_records check_loose_record
records_refuse w n N = each_refuses (FourOrSix N) (λ k. check_loose_record w n N (suc k)) N λ i l.
    let k = suc i in
    let h = height w k in
    unless (FourOrSix N) (eqb h 0 || ltb n h) 4 k (inl refl, omega arith, l) (unless (FourOrSix N) (astray w N h (then_edge w k) || astray w N h (else_edge w k)) 6 k (inr refl, omega arith, l) (passes (FourOrSix N) tt))

-- the other way
pub loose_passes : (w : Words) (n N : ℕ) → LooseRecords w n N → check_loose_records w n N ≡ pass
unfolding check_loose_records check_loose_record
loose_passes w n N D = all_each (λ k. check_loose_record w n N (suc k)) N λ k l.
    let h = height w (suc k) in
    rw (
      fitting n h (D.tall k l) (D.low k l),
      found w N h (then_edge w (suc k)) (D.then_node k l) (D.then_height k l),
      found w N h (else_edge w (suc k)) (D.else_node k l) (D.else_height k l),
    )
