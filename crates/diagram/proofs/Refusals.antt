-- Which refusals the rules can give: 1 to 10, 9 only from rule 9, 10 only where too few places are lent, and no place above N. Assumes nothing.
use Prim.Native.Nat.{ℕ, zero, suc, ◌+◌, ◌-◌, ◌*◌, ◌/◌, ◌%◌, ◌≤◌, ◌<◌}
use mathlib.Core.Path.{◌≡◌, refl, sym, subst}
use mathlib.Core.Logic.{◌⊎◌, inl, inr}
use mathlib.Core.Bool.{Bool, true, false, not, cond, ◌&&◌, ◌||◌}
use mathlib.Core.List.{List}
use mathlib.Core.Option.{Option, none, some}
use native.Mathlib.Omega.{arith}
use lib.Dec.{eqb, ltb, leb}
use lib.ListN.{length}
use borrow.Author.Tests.{ltb-true}
use Rattle.words.specs.Words.{word_at}
use Rattle.diagram.specs.Format.{Words, settings, nodes, root, height, then_edge, else_edge}
use Rattle.diagram.specs.Answer.{Answer, value, refusal, and_then, or_refuse, pass, each}
use Rattle.diagram.specs.Rules.{misled, check_record, named, check_named, wrong_root, check_header_of, check_header, check_records, check_names, check_diagram, check}
use Rattle.diagram.proofs.AnswerLaws.{refused_not}
use Rattle.diagram.proofs.Accept.{headed}

-- a refusal, if there is one, has a number and a place of which Q holds
abbrev pub Refuses : {A : Type 0} → (ℕ → ℕ → Type 0) → Answer A → Type 0
Refuses Q a = (number place : ℕ) → a ≡ refusal number place → Q number place

pub refuses : {A : Type 0} (Q : ℕ → ℕ → Type 0) (number place : ℕ) → Q number place → Refuses {A = A} Q (refusal number place)
refuses Q number place q r p e =
    let s : number ≡ r = cc in
    let t : place ≡ p = cc in
    subst (λ (p : ℕ). Q r p) t (subst (λ (r : ℕ). Q r place) s q)

pub passes : {A : Type 0} (Q : ℕ → ℕ → Type 0) (a : A) → Refuses Q (value a)
passes Q a r p e = absurd (refused_not (sym e))

pub unless : {A : Type 0} (Q : ℕ → ℕ → Type 0) (b : Bool) (number place : ℕ) {next : Answer A} → Q number place → Refuses Q next → Refuses Q (cond b (refusal number place) next)
unless Q true number place q h = refuses Q number place q
unless Q false number place q h = h

pub or_refuses : {A : Type 0} (Q : ℕ → ℕ → Type 0) (number : ℕ) → Q number 0 → (o : Option A) → Refuses Q (or_refuse number o)
unfolding or_refuse
or_refuses Q number q none = refuses Q number 0 q
or_refuses Q number q (some a) = passes Q a

-- one step after another, and a run of checks
pub then_refuses : {A B : Type 0} (Q : ℕ → ℕ → Type 0) (a : Answer A) (f : A → Answer B) → Refuses Q a → ((v : A) → a ≡ value v → Refuses Q (f v)) → Refuses Q (and_then a f)
unfolding and_then
then_refuses Q (value v) f p h = h v refl
then_refuses Q (refusal number place) f p h = refuses Q number place (p number place refl)

pub each_refuses : (Q : ℕ → ℕ → Type 0) (f : ℕ → Answer (Unit {0})) (m : ℕ) → ((k : ℕ) → k < m → Refuses Q (f k)) → Refuses Q (each f m)
unfolding each
each_refuses Q f zero h = passes Q tt
each_refuses Q f (suc m) h = then_refuses Q (each f m) (λ _. f m) (each_refuses Q f m (λ k l. h k (omega arith))) (λ _ e. h m (omega arith))

-- 1 to 3, or 10, at place 0
abbrev pub Early : ℕ → ℕ → Type 0
Early number place = (((0 < number) × (number ≤ 3)) ⊎ (number ≡ 10)) × (place ≡ 0)

pub early_low : {number place : ℕ} → Early number place → (number ≡ 9 → ⊥) × (number ≤ 10)
early_low h = elim h.0 [ inl a ↦ (λ i. omega arith, omega arith) | inr a ↦ (λ i. omega arith, omega arith) ]

-- a number below 9, at a place up to N
abbrev pub Records : ℕ → ℕ → ℕ → Type 0
Records N number place = (number < 9) × (place ≤ N)

-- 9, at a place up to N
abbrev pub Nine : ℕ → ℕ → ℕ → Type 0
Nine N number place = (number ≡ 9) × (place ≤ N)

pub header_refuses : (loose : Bool) (bytes : List ℕ) (lent : ℕ) (need : ℕ → ℕ) → Refuses Early (check_header_of loose bytes lent need)
unfolding check_header_of
header_refuses loose bytes lent need =
    let w = word_at bytes in
    unless Early (ltb (length bytes) 8) 1 0 (inl (omega arith, omega arith), refl)
    (unless Early (ltb 65535 (nodes w)) 2 0 (inl (omega arith, omega arith), refl)
    (unless Early (not (eqb (length bytes) (8 * (nodes w + 1)))) 1 0 (inl (omega arith, omega arith), refl)
    (unless Early (wrong_root loose (root w / 2) (nodes w)) 3 0 (inl (omega arith, omega arith), refl)
    (unless Early (ltb lent (need (nodes w))) 10 0 (inr refl, refl)
    (passes Early tt)))))

pub records_refuse : (w : Words) (n N : ℕ) → Refuses (Records N) (check_records w n N)
unfolding check_records check_record
records_refuse w n N = each_refuses (Records N) (λ k. check_record w n (suc k)) N λ i l.
    let k = suc i in
    unless (Records N) (eqb (height w k) 0 || ltb n (height w k)) 4 k (omega arith, l)
    (unless (Records N) (misled w k (then_edge w k) || misled w k (else_edge w k)) 6 k (omega arith, l)
    (unless (Records N) (ltb 1 k && leb (w k) (w (k - 1))) 5 k (omega arith, l)
    (unless (Records N) (eqb (then_edge w k % 2) 1) 7 k (omega arith, l)
    (unless (Records N) (eqb (then_edge w k) (else_edge w k)) 8 k (omega arith, l)
    (passes (Records N) tt)))))

pub names_refuse : (w : Words) (N : ℕ) → Refuses (Nine N) (check_names w N)
unfolding check_names check_named
names_refuse w N = each_refuses (Nine N) (λ k. check_named w N (suc k)) (N - 1) λ k l. go (named w N (suc k)) (suc k) (omega arith)
  where
    go : (b : Bool) (k : ℕ) → k ≤ N → Refuses (Nine N) (cond b pass (refusal 9 k))
    go true k l = passes (Nine N) tt
    go false k l = refuses (Nine N) 9 k (refl, l)

-- a table's own: a number up to 10, at a place up to 65,535
abbrev pub Own : ℕ → ℕ → Type 0
Own number place = (place ≤ 65535) × (number ≤ 10)

pub check_refuses : (bytes : List ℕ) (lent : ℕ) (need : ℕ → ℕ) → Refuses Own (check bytes lent need)
unfolding check check_diagram
check_refuses bytes lent need =
    let w = word_at bytes in
    then_refuses Own (check_header bytes lent need) _ (λ r p e. let h = header_refuses false bytes lent need r p e in (omega arith, (early_low h).1)) λ _ ok.
    then_refuses Own (check_diagram w (settings w) (nodes w)) _
    (then_refuses Own (check_records w (settings w) (nodes w)) _ (λ r p e. let h = records_refuse w (settings w) (nodes w) r p e in (omega (arith, (headed false bytes lent need ok).few), omega arith))
    λ _ _ r p e. let h = names_refuse w (nodes w) r p e in (omega (arith, (headed false bytes lent need ok).few), omega arith))
    λ _ _. passes Own (settings w, nodes w)

-- a refusal by 9 comes after the header's rules
pub nine_headed : (bytes : List ℕ) (lent : ℕ) (need : ℕ → ℕ) (place : ℕ) → check bytes lent need ≡ refusal 9 place → check_header bytes lent need ≡ pass
unfolding check and_then
nine_headed bytes lent need place e = go (check_header bytes lent need) refl _ e
  where
    go : (a : Answer (Unit {0})) → check_header bytes lent need ≡ a → (g : Unit {0} → Answer (ℕ × ℕ)) → and_then a g ≡ refusal 9 place → check_header bytes lent need ≡ pass
    go (value v) q g e = q
    go (refusal r p) q g e = let i : r ≡ 9 = cc in absurd ((early_low (header_refuses false bytes lent need r p q)).0 i)

-- ... and after the records' rules
pub nine_records : (bytes : List ℕ) (lent : ℕ) (need : ℕ → ℕ) (place : ℕ) → check bytes lent need ≡ refusal 9 place → let w = word_at bytes in check_records w (settings w) (nodes w) ≡ pass
unfolding check check_diagram and_then
nine_records bytes lent need place e = let w = word_at bytes in go (check_records w (settings w) (nodes w)) refl (rw (nine_headed bytes lent need place e) at e)
  where
    go : let w = word_at bytes in (a : Answer (Unit {0})) → check_records w (settings w) (nodes w) ≡ a
        → and_then {B = ℕ × ℕ} (and_then a (λ _. check_names w (nodes w))) (λ _. value (settings w, nodes w)) ≡ refusal 9 place → check_records w (settings w) (nodes w) ≡ pass
    go (value v) q e = q
    go (refusal r p) q e = let i : r ≡ 9 = cc in absurd (omega (arith, (records_refuse (word_at bytes) (settings (word_at bytes)) (nodes (word_at bytes)) r p q).0))

-- 10 only where fewer places are lent than are needed
abbrev pub Ten : ℕ → ℕ → ℕ → ℕ → Type 0
Ten lent needed number place = number ≡ 10 → lent < needed

pub header_lent : (loose : Bool) (bytes : List ℕ) (lent : ℕ) (need : ℕ → ℕ) → Refuses (Ten lent (need (nodes (word_at bytes)))) (check_header_of loose bytes lent need)
unfolding check_header_of
header_lent loose bytes lent need =
    let w = word_at bytes in
    let m = need (nodes w) in
    unless (Ten lent m) (ltb (length bytes) 8) 1 0 (λ i. omega arith)
    (unless (Ten lent m) (ltb 65535 (nodes w)) 2 0 (λ i. omega arith)
    (unless (Ten lent m) (not (eqb (length bytes) (8 * (nodes w + 1)))) 1 0 (λ i. omega arith)
    (unless (Ten lent m) (wrong_root loose (root w / 2) (nodes w)) 3 0 (λ i. omega arith)
    (few m (ltb lent m) refl))))
  where
    few : (m : ℕ) (b : Bool) → ltb lent m ≡ b → Refuses (Ten lent m) (cond b (refusal 10 0) pass)
    few m true q = refuses (Ten lent m) 10 0 (λ _. ltb-true lent m q)
    few m false q = passes (Ten lent m) tt

pub ten_lent : (bytes : List ℕ) (lent : ℕ) (need : ℕ → ℕ) → Refuses (Ten lent (need (nodes (word_at bytes)))) (check bytes lent need)
unfolding check check_diagram
ten_lent bytes lent need =
    let w = word_at bytes in
    let m = need (nodes w) in
    then_refuses (Ten lent m) (check_header bytes lent need) _ (header_lent false bytes lent need)
    λ _ _. then_refuses (Ten lent m) (check_diagram w (settings w) (nodes w)) _
    (then_refuses (Ten lent m) (check_records w (settings w) (nodes w)) _ (λ r p q i. absurd (omega (arith, (records_refuse w (settings w) (nodes w) r p q).0)))
    λ _ _ r p q i. absurd (omega (arith, (names_refuse w (nodes w) r p q).0)))
    λ _ _. passes (Ten lent m) (settings w, nodes w)
