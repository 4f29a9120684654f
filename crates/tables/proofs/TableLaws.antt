-- The table that the definitions find: there is one exactly if an accepted table permits the set, and then it is that. Assumes nothing.
use Prim.Native.Nat.{ℕ, ◌+◌, ◌*◌, ◌/◌, ◌^◌, ◌<◌}
use mathlib.Core.Path.{◌≡◌, refl, sym, ap, ◌∙◌, subst}
use mathlib.Core.Logic.{◌↔◌}
use mathlib.Core.Bool.{Bool, true, true≢false}
use mathlib.Core.List.{List}
use mathlib.Core.Option.{Option, none, some, map, bind, bind-eq-some_iff, map-eq-some_iff}
use native.Mathlib.Omega.{arith}
use lib.ListN.{length}
use Rattle.words.specs.Words.{Bytes, be_at, word_at, bytes_of}
use Rattle.words.proofs.Laws.{be_fits, length-bytes_of}
use Rattle.words.proofs.Bytes.{bytes-bytes_of, bytes_of-number}
use Rattle.diagram.specs.Format.{Words, root}
use Rattle.diagram.specs.Meaning.{under, permitted}
use Rattle.diagram.specs.Count.{select}
use Rattle.diagram.specs.Rules.{Accepts}
use Rattle.diagram.specs.Ordered.{Proper}
use Rattle.diagram.proofs.CountLaws.{count_mono_lt}
use Rattle.diagram.proofs.Select.{select_some, select_of, ranked}
use Rattle.diagram.proofs.Accept.{accepts_accepted}
use Rattle.diagram.proofs.Canonical.{canonical}
use Rattle.tables.specs.Table.{is_table, table_with, found, node_count, table_of}
use Rattle.tables.proofs.EqualFiles.{equal_files}
use Rattle.tables.proofs.TableFor.{TableFor, is_table_for, table_for_is, table_long, table_own, table_unique}

-- a search that must succeed
first_some : (P : ℕ → Bool) (m x : ℕ) → x < m → P x ≡ true → (y : ℕ) × (select P m 0 ≡ some y) × (P y ≡ true)
first_some P m x l p =
    let s = ranked P m 0 (omega (arith, count_mono_lt P p l)) in
    (s.0, select_of P m 0 s.0 s.1, s.1.passes)

module _ (n : ℕ) (P : ℕ → Bool) where
  -- what the search among tables of N nodes finds
  with_some : (N v : ℕ) → table_with n P N ≡ some v → TableFor n P (bytes_of (8 * (N + 1)) v) N
  unfolding table_with
  with_some N v e =
      let t = bytes_of (8 * (N + 1)) v in
      let i = is_table_for n P t (select_some (λ u. is_table n P (bytes_of (8 * (N + 1)) u)) (256 ^ (8 * (N + 1))) 0 v e).passes in
      let m : i.0 ≡ N = omega (arith, table_long n P t i.0 i.1, length-bytes_of (8 * (N + 1)) v) in
      subst (TableFor n P t) m i.1

  -- a search that succeeded found one
  found_some : (N : ℕ) → found (table_with n P N) ≡ true → (v : ℕ) × (table_with n P N ≡ some v)
  unfolding found
  found_some N e = go (table_with n P N) refl e
    where
      go : (o : Option ℕ) → table_with n P N ≡ o → found o ≡ true → (v : ℕ) × (table_with n P N ≡ some v)
      go none p q = absurd (true≢false (sym q))
      go (some v) p q = (v, p)

  -- where there is a table of the set
  module _ (t : List ℕ) (N : ℕ) (bytes : Bytes t) (T : TableFor n P t N) where
    -- whatever is found is that table
    with_is : (M v : ℕ) → table_with n P M ≡ some v → (M ≡ N) × (bytes_of (8 * (M + 1)) v ≡ t)
    with_is M v e = table_unique n P (bytes_of (8 * (M + 1)) v) t M N (bytes-bytes_of (8 * (M + 1)) v) bytes (with_some M v e) T

    -- and something is found
    with_found : (v : ℕ) × (table_with n P N ≡ some v)
    unfolding table_with
    with_found =
        let m = table_long n P t N T in
        let e : bytes_of (8 * (N + 1)) (be_at t 0 (length t)) ≡ t = ap (λ (k : ℕ). bytes_of k (be_at t 0 (length t))) (sym m) ∙ bytes_of-number t bytes in
        let v = first_some (λ u. is_table n P (bytes_of (8 * (N + 1)) u)) (256 ^ (8 * (N + 1))) (be_at t 0 (length t))
        (subst (λ (k : ℕ). be_at t 0 (length t) < 256 ^ k) m (be_fits t bytes 0 (length t))) (ap (is_table n P) e ∙ table_for_is n P t N T) in
        (v.0, v.1)

    -- so the smallest node count is its own, and the table of the definition is it
    pub node_count-is : node_count n P ≡ some N
    unfolding node_count found
    node_count-is =
        let f = (accepts_accepted t n N T.accepts).few in
        let c = first_some (λ M. found (table_with n P M)) 65536 N (omega arith) (ap found with_found.1) in
        let v = found_some c.0 c.2 in
        c.1 ∙ ap some (with_is c.0 v.0 v.1).0

    pub table_of-is : table_of n P ≡ some t
    unfolding table_of bind
    table_of-is = let v = with_found in rw (node_count-is, v.1) (ap some (with_is N v.0 v.1).1)

  -- what the definitions find is a table of the set
  pub node_count-some : (N : ℕ) → node_count n P ≡ some N → (t : List ℕ) × Bytes t × TableFor n P t N
  unfolding node_count
  node_count-some N e =
      let v = found_some N (select_some (λ M. found (table_with n P M)) 65536 0 N e).passes in
      (bytes_of (8 * (N + 1)) v.0, bytes-bytes_of (8 * (N + 1)) v.0, with_some N v.0 v.1)

  pub table_of-some : (t : List ℕ) → table_of n P ≡ some t → (N : ℕ) × Bytes t × TableFor n P t N
  unfolding table_of
  table_of-some t e =
      let a = (bind-eq-some_iff (node_count n P) (λ N. map (bytes_of (8 * (N + 1))) (table_with n P N))).0 e in
      let N = a.0 in
      let b = (map-eq-some_iff (bytes_of (8 * (N + 1))) (table_with n P N)).0 a.2 in
      (N, subst Bytes b.2 (bytes-bytes_of (8 * (N + 1)) b.0), subst (λ (s : List ℕ). TableFor n P s N) b.2 (with_some N b.0 b.1))

  -- the table's length is by the node count
  pub table_of-long : (t : List ℕ) (N : ℕ) → table_of n P ≡ some t → node_count n P ≡ some N → length t ≡ 8 * (N + 1)
  table_of-long t N e c =
      let s = table_of-some t e in
      let m : N ≡ s.0 = cc (node_count-is t s.0 s.1 s.2) in
      table_long n P t s.0 s.2 ∙ ap (λ (k : ℕ). 8 * (k + 1)) (sym m)

  -- too many nodes: a proper diagram of the set with more than 65,535 nodes shows that there is none
  module _ (w : Words) (N r : ℕ) (proper : Proper w n N) (root_node : r / 2 ≡ N) (many : 65535 < N) (means : (x : ℕ) → x < 2 ^ n → under w r x ≡ P x) where
    pub node_count-none : node_count n P ≡ none
    unfolding permitted
    node_count-none = go (node_count n P) refl
      where
        go : (o : Option ℕ) → node_count n P ≡ o → o ≡ none
        go none p = refl
        go (some M) p =
            let t = node_count-some M p in
            let A = accepts_accepted t.0 n M t.2.accepts in
            let c = canonical r (root (word_at t.0)) proper A.proper root_node A.root_node (λ x q. means x q ∙ sym (t.2.permits x q)) in
            absurd (omega (arith, c.count, A.few))

    pub table_of-none : table_of n P ≡ none
    unfolding table_of bind
    table_of-none = rw node_count-none

-- an accepted table is the table of what it permits
pub accepted_table : (n : ℕ) (t : List ℕ) (N : ℕ) → Bytes t → Accepts t n N → table_of n (permitted (word_at t)) ≡ some t
accepted_table n t N bytes a = table_of-is n (permitted (word_at t)) t N bytes (table_own n t N a)

-- the tables of two sets are equal exactly where the sets are
pub equal_tables : (n : ℕ) (P Q : ℕ → Bool) (s t : List ℕ) → table_of n P ≡ some s → table_of n Q ≡ some t → ((x : ℕ) → x < 2 ^ n → P x ≡ Q x) ↔ (s ≡ t)
equal_tables n P Q s t d e =
    let a = table_of-some n P s d in
    let b = table_of-some n Q t e in
    let f = equal_files n a.0 b.0 s t a.1 b.1 a.2.accepts b.2.accepts in (
      λ same. f.0 (λ x l. a.2.permits x l ∙ same x l ∙ sym (b.2.permits x l)),
      λ is x l. sym (a.2.permits x l) ∙ f.1 is x l ∙ b.2.permits x l,
    )
