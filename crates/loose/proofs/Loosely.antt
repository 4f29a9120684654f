-- A table is loose exactly if the rules hold field by field; an accepted table is loose. Assumes nothing.
use Prim.Native.Nat.{ℕ, ◌+◌, ◌*◌, ◌/◌, ◌≤◌}
use mathlib.Core.Path.{◌≡◌, refl, ap, subst, ◌∙◌}
use mathlib.Core.Bool.{Bool, true, false, cond}
use mathlib.Core.List.{List}
use native.Mathlib.Omega.{arith}
use lib.Dec.{ltb}
use lib.ListN.{length}
use borrow.Author.Tests.{le-ltb, eq-eqb}
use Rattle.words.specs.Words.{word_at}
use Rattle.diagram.specs.Format.{settings, nodes, root}
use Rattle.diagram.specs.Answer.{value, refusal, and_then, pass}
use Rattle.diagram.specs.Rules.{wrong_root, check_header_of}
use Rattle.diagram.specs.Ordered.{Accepted}
use Rattle.diagram.proofs.AnswerLaws.{value_inj, then_value}
use Rattle.diagram.proofs.Accept.{headed, some_root}
use Rattle.diagram.proofs.Paths.{ordered_loose}
use Rattle.loose.specs.Rules.{check_loose_records, check_loose}
use Rattle.loose.specs.Inner.{Loosely}
use Rattle.loose.proofs.Records.{passes_loose, loose_passes}

-- a table that passes with some memory lent keeps the rules
pub check_loosely : (bytes : List ℕ) (lent : ℕ) (need : ℕ → ℕ) (n N : ℕ) → check_loose bytes lent need ≡ value (n, N) → Loosely bytes n N × (need N ≤ lent)
unfolding check_loose
check_loosely bytes lent need n N e =
    let w = word_at bytes in
    let a = then_value (check_header_of true bytes lent need) _ e in
    let d = then_value (check_loose_records w (settings w) (nodes w)) _ a.1 in
    let v = value_inj d.1 in
    let s : settings w ≡ n = ap (λ q. q.0) v in
    let t : nodes w ≡ N = ap (λ q. q.1) v in
    let h = headed true bytes lent need a.0 in (
      record {
        long = h.long ∙ ap (λ (m : ℕ). 8 * (m + 1)) t;
        few = omega (arith, h.few);
        has_settings = s;
        has_nodes = t;
        root_node = omega (arith, some_root (root w / 2) (nodes w) h.right_root);
        records = rw (← s, ← t) (passes_loose w (settings w) (nodes w) d.0);
      },
      subst (λ (m : ℕ). need m ≤ lent) t h.enough,
    )

-- the other way: it is refused by 10 alone, where too few places are lent
pub loosely_lent : (bytes : List ℕ) (lent : ℕ) (need : ℕ → ℕ) (n N : ℕ) → Loosely bytes n N → check_loose bytes lent need ≡ cond (ltb lent (need N)) (refusal 10 0) (value (n, N))
unfolding check_loose wrong_root check_header_of and_then
loosely_lent bytes lent need n N A =
    let w = word_at bytes in
    let a = A.long in
    let b = A.has_nodes in
    let c = A.few in
    rw (
      le-ltb (length bytes) 8 (omega arith),
      le-ltb 65535 (nodes w) (omega arith),
      eq-eqb (length bytes) (8 * (nodes w + 1)) (omega arith),
      le-ltb (nodes w) (root w / 2) (omega (arith, A.root_node)),
      b,
      A.has_settings,
      loose_passes w n N A.records,
    )
    (go (ltb lent (need N)))
  where
    go : (b : Bool) → and_then {B = ℕ × ℕ} (cond b (refusal 10 0) pass) (λ _. value (n, N)) ≡ cond b (refusal 10 0) (value (n, N))
    go true = refl
    go false = refl

-- an accepted table is loose
pub accepted_loosely : (bytes : List ℕ) (n N : ℕ) → Accepted bytes n N → Loosely bytes n N
accepted_loosely bytes n N A = record {
  long = A.long;
  few = A.few;
  has_settings = A.has_settings;
  has_nodes = A.has_nodes;
  root_node = omega (arith, A.root_node);
  records = ordered_loose (word_at bytes) n N A.proper.reduced.ordered;
}
