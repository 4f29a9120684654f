-- What a program that writes a table has to show: a proper diagram of the set, and the bytes of its records. Assumes nothing.
use Prim.Native.Nat.{ℕ, zero, suc, ◌+◌, ◌*◌, ◌/◌, ◌^◌, ◌≤◌, ◌<◌}
use mathlib.Core.Path.{◌≡◌, refl, sym, ap, ◌∙◌}
use mathlib.Core.Bool.{Bool, false}
use mathlib.Core.List.{List}
use mathlib.Core.Option.{some}
use native.Mathlib.Omega.{arith}
use native.Mathlib.Nat.{le_refl}
use lib.ListN.{length}
use borrow.Author.Tests.{lt-ltb, le-ltb}
use Rattle.words.specs.Words.{Bytes, word_at, bytes_of, words_bytes}
use Rattle.words.proofs.Laws.{length-bytes_of, length-words_bytes}
use Rattle.words.proofs.Bytes.{bytes-bytes_of, word-bytes_of, bytes_words, word_of_run}
use Rattle.diagram.specs.Format.{Words, high_field, middle_field, low_field, settings, nodes, root, height}
use Rattle.diagram.specs.Meaning.{under, permitted}
use Rattle.diagram.specs.Answer.{value, refusal}
use Rattle.diagram.specs.Ordered.{Proper, Accepted}
use Rattle.diagram.specs.Reading.{record_of}
use Rattle.diagram.proofs.Paths.{under_never}
use Rattle.diagram.proofs.Accept.{accepted_accepts}
use Rattle.diagram.proofs.Agree.{agree_under, proper_agree}
use Rattle.diagram.proofs.Fields.{record_high, record_middle, record_low}
use Rattle.tables.specs.Table.{node_count, table_of}
use Rattle.tables.specs.Writing.{fitted}
use Rattle.tables.proofs.TableFor.{TableFor}
use Rattle.tables.proofs.TableLaws.{node_count-is, table_of-is, table_of-none}

-- a proper diagram of the set, of c nodes, with root edge `top`
module _ (n : ℕ) (P : ℕ → Bool) (L : Words) (c top : ℕ) (proper : Proper L n c) (root_node : top / 2 ≡ c) (means : (x : ℕ) → x < 2 ^ n → under L top x ≡ P x) where
  -- more nodes than a table can have
  pub answer_16 : (room : ℕ) → 65535 < c → fitted room (table_of n P) ≡ refusal 16 0
  unfolding fitted
  answer_16 room l = rw (table_of-none n P L c top proper root_node l means)

  module _ (few : c ≤ 65535) where
    -- bytes that hold a header and the diagram's records
    module _ (out : List ℕ) (bytes : Bytes out) (long : length out ≡ 8 * (c + 1)) (header : word_at out 0 ≡ record_of n c top) (records : (i : ℕ) → i < c → word_at out (suc i) ≡ L (suc i)) where
      -- the header's root edge is `top`
      top_fits : top < 536870912
      top_fits = omega arith

      has_root : root (word_at out) ≡ top
      unfolding root
      has_root = ap low_field header ∙ record_low n c top (omega arith) top_fits

      -- they are accepted
      is_accepted : Accepted out n c
      unfolding settings nodes
      is_accepted = record {
        long = long;
        few = few;
        has_settings = ap high_field header ∙ record_high n c top (omega arith) top_fits;
        has_nodes = ap middle_field header ∙ record_middle n c top (omega arith) top_fits;
        root_node = ap (λ (e : ℕ). e / 2) has_root ∙ root_node;
        proper = proper_agree L (word_at out) n c (λ i l. sym (records i l)) proper;
      }

      -- ... and permit the set
      is_for : TableFor n P out c
      unfolding permitted
      is_for = record {
        accepts = accepted_accepts out n c is_accepted;
        permits = λ x l. ap (λ (e : ℕ). under (word_at out) e x) has_root ∙ sym (agree_under L (word_at out) n c proper.reduced.ordered c (le_refl c) (λ i l. sym (records i l)) top x (omega arith)) ∙ means x l;
      }

      -- so they are the table, and are what is to be written where they fit
      pub records_table : table_of n P ≡ some out
      records_table = table_of-is n P out c bytes is_for

      pub answer_bytes : (room : ℕ) → 8 * (c + 1) ≤ room → fitted room (table_of n P) ≡ value out
      unfolding fitted
      answer_bytes room l = rw (records_table, long, le-ltb room (8 * (c + 1)) l)

    -- there is a table of that length, written or not
    module _ (few_settings : n ≤ 63) where
      -- the header, then the records
      all : Words
      all zero = record_of n c top
      all (suc i) = L (suc i)

      -- each fits 64 bits
      all_fit : (i : ℕ) → i < c + 1 → all i < 2 ^ 64
      unfolding all record_of height high_field
      all_fit zero l = omega arith
      all_fit (suc i) l = omega (arith, proper.reduced.ordered.low i (omega arith))

      -- their bytes
      made : List ℕ
      made = words_bytes all (c + 1)

      made_for : TableFor n P made c
      unfolding all made
      made_for =
          let m = c + 1 in
          is_for made (bytes_words all m) (length-words_bytes all m) (word_of_run all m 0 (omega arith) (all_fit 0 (omega arith)))
          (λ i q. word_of_run all m (suc i) (omega arith) (all_fit (suc i) (omega arith)))

      -- so the diagram's node count is the table's
      pub count_is : node_count n P ≡ some c
      unfolding made
      count_is = node_count-is n P made c (bytes_words all (c + 1)) made_for

      -- less memory than it takes
      pub answer_11 : (room : ℕ) → room < 8 * (c + 1) → fitted room (table_of n P) ≡ refusal 11 0
      unfolding fitted made
      answer_11 room l = rw (table_of-is n P made c (bytes_words all (c + 1)) made_for, length-words_bytes all (c + 1), lt-ltb room (8 * (c + 1)) l)

-- a diagram of no nodes keeps all rules
no_nodes : (w : Words) (n : ℕ) → Proper w n 0
no_nodes w n = record {
  reduced = record {
    ordered = record {
      tall = λ k l. absurd (omega arith);
      low = λ k l. absurd (omega arith);
      then_node = λ k l. absurd (omega arith);
      else_node = λ k l. absurd (omega arith);
      then_height = λ k l. absurd (omega arith);
      else_height = λ k l. absurd (omega arith);
    };
    ascends = λ k l. absurd (omega arith);
    then_plain = λ k l. absurd (omega arith);
    differ = λ k l. absurd (omega arith);
  };
  named = λ k l. absurd (omega arith);
}

-- the table of the empty set is the header alone, with root edge 1
pub empty_table : (n : ℕ) (P : ℕ → Bool) → n ≤ 63 → ((x : ℕ) → x < 2 ^ n → P x ≡ false) → table_of n P ≡ some (bytes_of 8 (n * 2 ^ 58 + 1))
unfolding record_of
empty_table n P few none =
    let v = n * 2 ^ 58 + 1 in
    let w : Words = λ k. 0 in
    records_table n P w 0 1 (no_nodes w n) refl (λ x l. under_never w x ∙ sym (none x l)) (omega arith) (bytes_of 8 v) (bytes-bytes_of 8 v) (length-bytes_of 8 v)
    (word-bytes_of v (omega arith) ∙ omega arith) (λ i l. absurd (omega arith))
