-- A table is accepted exactly if the rules hold field by field. Assumes nothing.
use Prim.Native.Nat.{ℕ, zero, suc, ◌+◌, ◌-◌, ◌*◌, ◌/◌, ◌%◌, ◌≤◌, ◌<◌}
use mathlib.Core.Path.{◌≡◌, refl, sym, ap, ◌∙◌, subst}
use mathlib.Core.Logic.{inl, inr, ◌≢◌}
use mathlib.Core.Bool.{Bool, true, false, not, cond, ◌&&◌, ◌||◌}
use mathlib.Core.List.{List}
use native.Mathlib.Omega.{arith}
use lib.Dec.{eqb, ltb, leb}
use lib.ListN.{length}
use borrow.Author.Tests.{ltb-true, ltb-false, leb-false, eqb-true, eqb-false, lt-ltb, le-ltb, lt-leb, eq-eqb, ne_eqb, not-false}
use Rattle.words.specs.Words.{word_at}
use Rattle.words.proofs.Cases.{or_true, or_false, or_either, join_false, and_false, passed}
use Rattle.diagram.specs.Format.{Words, settings, nodes, root, height, then_edge, else_edge}
use Rattle.diagram.specs.Answer.{Answer, value, refusal, and_then, pass}
use Rattle.diagram.specs.Rules.{misled, check_record, names, named, check_named, wrong_root, check_header_of, check_header, check_records, check_names, check_diagram, check, Accepts}
use Rattle.diagram.specs.Ordered.{Ordered, Reduced, Named, Proper, Accepted}
use Rattle.diagram.proofs.AnswerLaws.{refused_not, value_inj, then_value, each_all, all_each, some_at, some_found}

-- a height passes rule 4 if it is from 1 to n, and only then
pub fitting : (n h : ℕ) → 0 < h → h ≤ n → (eqb h 0 || ltb n h) ≡ false
fitting n h p l = join_false (ne_eqb h 0 (λ z. omega arith)) (le-ltb n h l)

pub fits : (n h : ℕ) → (eqb h 0 || ltb n h) ≡ false → (0 < h) × (h ≤ n)
fits n h e =
    let a = or_false (eqb h 0) (ltb n h) e in
    let o : h ≡ 0 → ⊥ = eqb-false h 0 a.0 in
    (omega arith, ltb-false n h a.1)

-- what rules 4 to 8 say of record k, taken apart
record Kept (w : Words) (n k : ℕ) : Type 0 where
  tall : 0 < height w k
  low : height w k ≤ n
  above : (ltb 1 k && leb (w k) (w (k - 1))) ≡ false
  then_node : then_edge w k / 2 < k
  then_height : height w (then_edge w k / 2) < height w k
  else_node : else_edge w k / 2 < k
  else_height : height w (else_edge w k / 2) < height w k
  then_plain : then_edge w k % 2 ≡ 0
  differ : then_edge w k ≡ else_edge w k → ⊥

kept : (w : Words) (n k : ℕ) → check_record w n k ≡ pass → Kept w n k
unfolding check_record misled
kept w n k e =
    let a = passed (eqb (height w k) 0 || ltb n (height w k)) refused_not e in
    let b = passed (misled w k (then_edge w k) || misled w k (else_edge w k)) refused_not a.1 in
    let c = passed (ltb 1 k && leb (w k) (w (k - 1))) refused_not b.1 in
    let d = passed (eqb (then_edge w k % 2) 1) refused_not c.1 in
    let f = passed (eqb (then_edge w k) (else_edge w k)) refused_not d.1 in
    let h = fits n (height w k) a.0 in
    let m = or_false (misled w k (then_edge w k)) (misled w k (else_edge w k)) b.0 in
    let t = or_false (leb k (then_edge w k / 2)) (leb (height w k) (height w (then_edge w k / 2))) m.0 in
    let u = or_false (leb k (else_edge w k / 2)) (leb (height w k) (height w (else_edge w k / 2))) m.1 in
    let o : then_edge w k % 2 ≡ 1 → ⊥ = eqb-false (then_edge w k % 2) 1 d.0 in
    record {
      tall = h.0;
      low = h.1;
      above = c.0;
      then_node = leb-false k (then_edge w k / 2) t.0;
      then_height = leb-false (height w k) (height w (then_edge w k / 2)) t.1;
      else_node = leb-false k (else_edge w k / 2) u.0;
      else_height = leb-false (height w k) (height w (else_edge w k / 2)) u.1;
      then_plain = omega arith;
      differ = eqb-false (then_edge w k) (else_edge w k) f.0;
    }

above_before : (w : Words) (k : ℕ) → (ltb 1 (suc (suc k)) && leb (w (suc (suc k))) (w (suc (suc k) - 1))) ≡ false → w (suc k) < w (suc (suc k))
above_before w k e =
    let p : suc (suc k) - 1 ≡ suc k = omega arith in
    leb-false (w (suc (suc k))) (w (suc k))
    (subst (λ (b : Bool). (b && leb (w (suc (suc k))) (w (suc k))) ≡ false) (lt-ltb 1 (suc (suc k)) (omega arith))
    (subst (λ (j : ℕ). (ltb 1 (suc (suc k)) && leb (w (suc (suc k))) (w j)) ≡ false) p e))

-- records that pass are a reduced diagram
pub records_reduced : (w : Words) (n N : ℕ) → check_records w n N ≡ pass → Reduced w n N
unfolding check_records
records_reduced w n N e =
    let all : (k : ℕ) → k < N → Kept w n (suc k) = λ k l. kept w n (suc k) (each_all (λ k. check_record w n (suc k)) N e k l) in
    record {
      ordered = record {
        tall = λ k l. (all k l).tall;
        low = λ k l. (all k l).low;
        then_node = λ k l. omega (arith, (all k l).then_node);
        else_node = λ k l. omega (arith, (all k l).else_node);
        then_height = λ k l. (all k l).then_height;
        else_height = λ k l. (all k l).else_height;
      };
      ascends = λ k l. above_before w k (all (suc k) l).above;
      then_plain = λ k l. (all k l).then_plain;
      differ = λ k l. (all k l).differ;
    }

-- nodes that pass rule 9 are named
names_named : (w : Words) (N : ℕ) → check_names w N ≡ pass → Named w N
unfolding check_names check_named named names
names_named w N e k l =
    let s = some_found (λ j. names w (suc j) (suc k)) N (go (named w N (suc k)) (each_all (λ k. check_named w N (suc k)) (N - 1) e k (omega arith))) in (
      s.0,
      s.1,
      elim (or_true (eqb (then_edge w (suc s.0) / 2) (suc k)) (eqb (else_edge w (suc s.0) / 2) (suc k)) s.2)
          [ inl q ↦ inl (eqb-true (then_edge w (suc s.0) / 2) (suc k) q) | inr q ↦ inr (eqb-true (else_edge w (suc s.0) / 2) (suc k) q) ],
    )
  where
    go : (b : Bool) → cond b pass (refusal 9 (suc k)) ≡ pass → b ≡ true
    go true e = refl
    go false e = absurd (refused_not e)

-- a diagram that passes rules 4 to 9 is proper
diagram_proper : (w : Words) (n N : ℕ) → check_diagram w n N ≡ pass → Proper w n N
unfolding check_diagram
diagram_proper w n N e =
    let a = then_value (check_records w n N) (λ _. check_names w N) e in
    record { reduced = records_reduced w n N a.0; named = names_named w N a.1 }

-- what the header's rules say
pub record Headed (loose : Bool) (bytes : List ℕ) (lent : ℕ) (need : ℕ → ℕ) : Type 0 where
  pub long : length bytes ≡ 8 * (nodes (word_at bytes) + 1)
  pub few : nodes (word_at bytes) ≤ 65535
  pub right_root : wrong_root loose (root (word_at bytes) / 2) (nodes (word_at bytes)) ≡ false
  pub enough : need (nodes (word_at bytes)) ≤ lent

pub headed : (loose : Bool) (bytes : List ℕ) (lent : ℕ) (need : ℕ → ℕ) → check_header_of loose bytes lent need ≡ pass → Headed loose bytes lent need
unfolding check_header_of
headed loose bytes lent need e =
    let w = word_at bytes in
    let a = passed (ltb (length bytes) 8) refused_not e in
    let b = passed (ltb 65535 (nodes w)) refused_not a.1 in
    let c = passed (not (eqb (length bytes) (8 * (nodes w + 1)))) refused_not b.1 in
    let d = passed (wrong_root loose (root w / 2) (nodes w)) refused_not c.1 in
    let f = passed (ltb lent (need (nodes w))) refused_not d.1 in
    record {
      long = eqb-true (length bytes) (8 * (nodes w + 1)) (not-false (eqb (length bytes) (8 * (nodes w + 1))) c.0);
      few = ltb-false 65535 (nodes w) b.0;
      right_root = d.0;
      enough = ltb-false lent (need (nodes w)) f.0;
    }

-- rule 3: the root's node is the last, or in a loose table one that there is
pub last_root : (v N : ℕ) → wrong_root false v N ≡ false → v ≡ N
unfolding wrong_root
last_root v N e = eqb-true v N (not-false (eqb v N) e)

pub some_root : (v N : ℕ) → wrong_root true v N ≡ false → v ≤ N
unfolding wrong_root
some_root v N e = ltb-false N v e

-- a table that passes with some memory lent keeps the rules
pub check_accepted : (bytes : List ℕ) (lent : ℕ) (need : ℕ → ℕ) (n N : ℕ) → check bytes lent need ≡ value (n, N) → Accepted bytes n N × (need N ≤ lent)
unfolding check
check_accepted bytes lent need n N e =
    let w = word_at bytes in
    let a = then_value (check_header bytes lent need) _ e in
    let d = then_value (check_diagram w (settings w) (nodes w)) _ a.1 in
    let v = value_inj d.1 in
    let s : settings w ≡ n = ap (λ q. q.0) v in
    let t : nodes w ≡ N = ap (λ q. q.1) v in
    let h = headed false bytes lent need a.0 in (
      record {
        long = h.long ∙ ap (λ (m : ℕ). 8 * (m + 1)) t;
        few = omega (arith, h.few);
        has_settings = s;
        has_nodes = t;
        root_node = last_root (root w / 2) (nodes w) h.right_root ∙ t;
        proper = rw (← s, ← t) (diagram_proper w (settings w) (nodes w) d.0);
      },
      subst (λ (m : ℕ). need m ≤ lent) t h.enough,
    )

-- the other way
module _ (w : Words) (n N : ℕ) (A : Proper w n N) where
  D : Ordered w n N
  D = A.reduced.ordered

  keeps : (k : ℕ) → k < N → check_record w n (suc k) ≡ pass
  unfolding check_record misled
  keeps k l =
      let c = D.then_node k l in
      let d = D.else_node k l in
      let e = then_edge w (suc k) in
      let f = else_edge w (suc k) in
      rw (
        fitting n (height w (suc k)) (D.tall k l) (D.low k l),
        join_false (lt-leb (suc k) (e / 2) (omega arith)) (lt-leb (height w (suc k)) (height w (e / 2)) (D.then_height k l)),
        join_false (lt-leb (suc k) (f / 2) (omega arith)) (lt-leb (height w (suc k)) (height w (f / 2)) (D.else_height k l)),
        and_false (ltb 1 (suc k)) (leb (w (suc k)) (w (suc k - 1))) (λ q. lt-leb (w (suc k)) (w (suc k - 1)) (before k l (ltb-true 1 (suc k) q))),
        ne_eqb (e % 2) 1 (λ z. omega (arith, A.reduced.then_plain k l)),
        ne_eqb e f (A.reduced.differ k l),
      )
    where
      before : (k : ℕ) → k < N → 1 < suc k → w (suc k - 1) < w (suc k)
      before zero l q = absurd (omega arith)
      before (suc k) l q = let p : suc (suc k) - 1 ≡ suc k = omega arith in rw p (A.reduced.ascends k l)

  names_pass : check_names w N ≡ pass
  unfolding check_names check_named named names
  names_pass = all_each (λ k. check_named w N (suc k)) (N - 1) λ k l.
      let r = A.named k (omega arith) in
      let t = eqb (then_edge w (suc r.0) / 2) (suc k) in
      rw (some_at (λ j. names w (suc j) (suc k)) N r.0 r.1
      (elim r.2 [ inl e ↦ rw (eq-eqb (then_edge w (suc r.0) / 2) (suc k) e) | inr e ↦ or_either t (eq-eqb (else_edge w (suc r.0) / 2) (suc k) e) ]))

  records_pass : check_records w n N ≡ pass
  unfolding check_records
  records_pass = all_each (λ k. check_record w n (suc k)) N keeps

-- an accepted table is refused by 10 alone, where too few places are lent
pub accepted_lent : (bytes : List ℕ) (lent : ℕ) (need : ℕ → ℕ) (n N : ℕ) → Accepted bytes n N → check bytes lent need ≡ cond (ltb lent (need N)) (refusal 10 0) (value (n, N))
unfolding check wrong_root check_header_of check_diagram and_then
accepted_lent bytes lent need n N A =
    let w = word_at bytes in
    let a = A.long in
    let b = A.has_nodes in
    let c = A.few in
    rw (
      le-ltb (length bytes) 8 (omega arith),
      le-ltb 65535 (nodes w) (omega arith),
      eq-eqb (length bytes) (8 * (nodes w + 1)) (omega arith),
      eq-eqb (root w / 2) (nodes w) (A.root_node ∙ sym b),
      b,
      A.has_settings,
      records_pass w n N A.proper,
      names_pass w n N A.proper,
    )
    (go (ltb lent (need N)))
  where
    go : (b : Bool) → and_then {B = ℕ × ℕ} (cond b (refusal 10 0) pass) (λ _. value (n, N)) ≡ cond b (refusal 10 0) (value (n, N))
    go true = refl
    go false = refl

pub accepted_check : (bytes : List ℕ) (lent : ℕ) (need : ℕ → ℕ) (n N : ℕ) → Accepted bytes n N → need N ≤ lent → check bytes lent need ≡ value (n, N)
accepted_check bytes lent need n N A l = accepted_lent bytes lent need n N A ∙ rw (le-ltb lent (need N) l)

-- the places that are lent, and those that are needed, are for rule 10 alone
pub check_lent : (bytes : List ℕ) (lent lent' : ℕ) (need need' : ℕ → ℕ) → check bytes lent need ≢ refusal 10 0 → check bytes lent' need' ≢ refusal 10 0
    → check bytes lent need ≡ check bytes lent' need'
unfolding check wrong_root check_header_of and_then
check_lent bytes lent lent' need need' =
    let w = word_at bytes in
    go (ltb (length bytes) 8) (ltb 65535 (nodes w)) (not (eqb (length bytes) (8 * (nodes w + 1)))) (not (eqb (root w / 2) (nodes w)))
    (ltb lent (need (nodes w))) (ltb lent' (need' (nodes w))) _
  where
    -- rules 1, 2, 1, 3 and 10, and what comes after them
    header : Bool → Bool → Bool → Bool → Bool → Answer (ℕ × ℕ) → Answer (ℕ × ℕ)
    header a b c d few next = and_then (cond a (refusal 1 0) (cond b (refusal 2 0) (cond c (refusal 1 0) (cond d (refusal 3 0) (cond few (refusal 10 0) pass))))) (λ _. next)

    go : (a b c d few few' : Bool) (next : Answer (ℕ × ℕ)) → header a b c d few next ≢ refusal 10 0 → header a b c d few' next ≢ refusal 10 0 → header a b c d few next ≡ header a b c d few' next
    go true b c d few few' next h h' = refl
    go false true c d few few' next h h' = refl
    go false false true d few few' next h h' = refl
    go false false false true few few' next h h' = refl
    go false false false false true few' next h h' = absurd (h refl)
    go false false false false false true next h h' = absurd (h' refl)
    go false false false false false false next h h' = refl

-- acceptance is a matter of the bytes alone, and is the rules field by field
pub accepts_accepted : (bytes : List ℕ) (n N : ℕ) → Accepts bytes n N → Accepted bytes n N
accepts_accepted bytes n N e = (check_accepted bytes 0 (λ _. 0) n N e).0

pub accepted_accepts : (bytes : List ℕ) (n N : ℕ) → Accepted bytes n N → Accepts bytes n N
accepted_accepts bytes n N A = accepted_check bytes 0 (λ _. 0) n N A (omega arith)
