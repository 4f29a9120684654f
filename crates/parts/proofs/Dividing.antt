-- Demand 3: a list of calls that keep part-write's promise divides the table. Assumes nothing.
use Prim.Native.Nat.{ℕ, ◌+◌, ◌^◌, ◌≤◌, ◌<◌}
use mathlib.Core.Path.{◌≡◌, sym, ap, ◌∙◌}
use mathlib.Core.Bool.{Bool}
use mathlib.Core.List.{List, Memᴰ}
use mathlib.Core.Option.{some}
use native.Mathlib.Omega.{arith}
use Rattle.words.specs.Words.{word_at}
use Rattle.diagram.specs.Meaning.{permitted}
use Rattle.diagram.specs.Count.{count_below, total}
use Rattle.diagram.specs.Answer.{value}
use Rattle.diagram.specs.Rules.{Accepts}
use Rattle.diagram.proofs.CountLaws.{count_cong}
use Rattle.diagram.proofs.Select.{select_some, select_of, selected_cong, ranked}
use Rattle.diagram.proofs.Accept.{accepts_accepted}
use Rattle.ranking.specs.Operations.{unrank_setup}
use Rattle.ranking.proofs.Numbering.{selects_unrank}
use Rattle.division.specs.Span.{start, size, in_part}
use Rattle.division.proofs.SpanLaws.{sizes_even}
use Rattle.division.proofs.Parts.{part_inside, part_some, part_once, part_count, part_setup}
use Rattle.tables.specs.Table.{table_of}
use Rattle.tables.proofs.TableFor.{TableFor}
use Rattle.tables.proofs.TableLaws.{table_of-some}
use Rattle.parts.specs.Calls.{Call, Kept, Wrote}
use Rattle.parts.specs.Division.{Right, Division}
use Rattle.parts.proofs.Promised.{refused_due, due_refused, handed_part}

module _ (table : List ℕ) (n N k : ℕ) (ok : Accepts table n N) (parts : 0 < k) (few : k ≤ 65535) where
  abbrev P : ℕ → Bool
  P = permitted (word_at table)

  -- the setups of an accepted table, counted
  total_is : (t : List ℕ) (M : ℕ) → Accepts t n M → total (word_at t) ≡ count_below (permitted (word_at t)) (2 ^ n)
  unfolding total
  total_is t M a = ap (λ (m : ℕ). count_below (permitted (word_at t)) (2 ^ m)) (accepts_accepted t n M a).has_settings

  module _ (j : ℕ) (bytes : List ℕ) (fits : j < k) (is : table_of n (in_part k j n P) ≡ some bytes) where
    nodes : ℕ
    nodes = (table_of-some n (in_part k j n P) bytes is).0

    T : TableFor n (in_part k j n P) bytes nodes
    unfolding nodes
    T = (table_of-some n (in_part k j n P) bytes is).2

    -- setup r of the part is setup start + r of the whole
    numbered : (r : ℕ) → r < size (count_below P (2 ^ n)) k j
        → (x : ℕ) × (unrank_setup r n (permitted (word_at bytes)) ≡ value x) × (unrank_setup (start (count_below P (2 ^ n)) k j + r) n P ≡ value x)
    numbered r q =
        let c = count_below P (2 ^ n) in
        let s = ranked P (2 ^ n) (start c k j + r) (omega (arith, part_inside c k j fits)) in
        let u = select_some (in_part k j n P) (2 ^ n) r s.0 (part_setup k n P j r fits q ∙ select_of P (2 ^ n) (start c k j + r) s.0 s.1) in
        let v = selected_cong (in_part k j n P) (permitted (word_at bytes)) (2 ^ n) r s.0 (λ y l. sym (T.permits y l)) u in
        (s.0, selects_unrank n (permitted (word_at bytes)) s.0 r v, selects_unrank n P s.0 (start c k j + r) s.1)

    -- the table of a part is right
    part_right : Right table n k j bytes
    part_right = record {
      index_fits = fits;
      nodes = nodes;
      accepted = T.accepts;
      set = is;
      sized = total_is bytes nodes T.accepts ∙ count_cong (permitted (word_at bytes)) (in_part k j n P) (2 ^ n) T.permits ∙ part_count k n P j fits
          ∙ ap (λ (m : ℕ). size m k j) (sym (total_is table N ok));
      numbered = rw (total_is table N ok) numbered;
    }

    -- a setup below 2 ^ n is in it exactly if it is in the part
    pub in_part_lem : (x : ℕ) → x < 2 ^ n → permitted (word_at bytes) x ≡ in_part k j n P x
    in_part_lem = T.permits

  module _ (calls : List Call) (kept : (c : Call) → Memᴰ c calls → Kept table k c) where
    -- what a call wrote as part j is its table
    wrote_table : (j : ℕ) (bytes : List ℕ) → Wrote calls j bytes → (j < k) × (table_of n (in_part k j n P) ≡ some bytes)
    wrote_table j bytes o =
        let c = o.call in
        rw (← o.index_is) (handed_part table n N k ok parts few c (kept c o.listed) bytes o.handed)

    right : (j : ℕ) (bytes : List ℕ) → Wrote calls j bytes → Right table n k j bytes
    right j bytes o = let w = wrote_table j bytes o in part_right j bytes w.0 w.1

    inside : (j : ℕ) (bytes : List ℕ) → Wrote calls j bytes → (x : ℕ) → x < 2 ^ n → permitted (word_at bytes) x ≡ in_part k j n P x
    inside j bytes o = let w = wrote_table j bytes o in in_part_lem j bytes w.0 w.1

    -- demand 3
    pub division : Division table n N k calls
    division = record {
      refusals = λ c i number place. let K = kept c i in (refused_due table n N k ok parts few c K number place, due_refused table n N k ok parts few c K number place);
      even = λ i j _ _. sizes_even (total (word_at table)) k i j;
      right = right;
      once = λ j a b o o'. let e = (wrote_table j a o).1 in let f = (wrote_table j b o').1 in cc;
      disjoint = λ i j a b o o' d x l p q. d (part_once k n P i j x (sym (inside i a o x l) ∙ p) (sym (inside j b o' x l) ∙ q));
      complete = λ part o x l p.
          let s = part_some k n P x parts l p in
          let j = s.0 in (
            j,
            s.1,
            inside j (part j) (o j s.1) x l ∙ s.2,
            λ i m q. part_once k n P i j x (sym (inside i (part i) (o i m) x l) ∙ q) s.2,
          );
    }

-- so the table that an operation writes, of whatever set of setups, is divided with the same guarantee
pub written_division : (n : ℕ) (P : ℕ → Bool) (bytes : List ℕ) → table_of n P ≡ some bytes → (k : ℕ) → 0 < k → k ≤ 65535
    → (calls : List Call) → ((c : Call) → Memᴰ c calls → Kept bytes k c) → (N : ℕ) × Division bytes n N k calls
written_division n P bytes is k parts few calls kept = let t = table_of-some n P bytes is in (t.0, division bytes n t.0 k t.2.accepts parts few calls kept)
