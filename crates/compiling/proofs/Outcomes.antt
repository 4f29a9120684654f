-- What becomes of nodes that are numbered: too many records, too little room, or the table. Assumes nothing.
use Prim.Native.Nat.{ℕ, ◌+◌, ◌*◌, ◌/◌, ◌%◌, ◌^◌, ◌≤◌, ◌<◌}
use mathlib.Core.Path.{◌≡◌, refl, sym, ap, ◌∙◌}
use mathlib.Core.Bool.{Bool}
use mathlib.Core.List.{List, ◌++◌}
use mathlib.Core.Option.{some}
use native.Mathlib.Nat.{le_refl}
use native.Mathlib.Omega.{arith}
use lib.ListN.{length, drop}
use Rattle.words.specs.Words.{Bytes, word_at}
use Rattle.diagram.specs.Format.{Words}
use Rattle.diagram.specs.Meaning.{flip, under}
use Rattle.diagram.specs.Answer.{value, refusal}
use Rattle.diagram.specs.Ordered.{Proper}
use Rattle.diagram.specs.Reading.{record_of}
use Rattle.diagram.proofs.Edges.{turn_under}
use Rattle.tables.specs.Table.{node_count}
use Rattle.tables.specs.Inner.{Writes}
use Rattle.tables.proofs.Writes.{writes_refused, writes_bytes}
use Rattle.tables.proofs.WritingLaws.{count_is, answer_11, answer_bytes}
use Rattle.reducing.specs.Levels.{Means, through}
use Rattle.reducing.specs.Inner.{height_of, edge_of, result_of, records_of, Numbers}
use Rattle.reducing.proofs.Meaning.{levelled_means}
use Rattle.reducing.proofs.Records.{through_node, levelled_fewer}
use Rattle.reducing.proofs.Proper.{levelled_proper}
use Rattle.reducing.proofs.TooMany.{levelled_16}
use Rattle.compiling.specs.Inner.{HoldsDiagram, along, HoldsTable}

module _ (sheet : List ℕ) (P n M root : ℕ) (H : HoldsDiagram sheet P n M (root / 2)) (W' : ℕ → ℕ) (c : ℕ) where
  abbrev W : ℕ → ℕ
  W = word_at sheet

  abbrev top : ℕ
  top = root / 2

  -- what the root edge becomes
  abbrev e : ℕ
  e = through (result_of W' P) root

  -- all heights are numbered
  module _ (N : Numbers W W' P M c n) where
    abbrev L : Words
    L = records_of W'

    -- the records are proper, and the root edge leads to the last
    records_proper : Proper L n c × (e / 2 ≡ c)
    records_proper = let p = levelled_proper (height_of W P) (edge_of W P) (result_of W' P) L n M c H.nodes.loose N.levelled top H.inside H.named in (p.0, through_node (result_of W' P) root ∙ p.1)

    pub root_small : c ≤ 65535 → e < 131072
    root_small few = omega (arith, records_proper.1)

  -- where the first node is a sink there are fewer records than nodes
  pub fewer : (h : ℕ) → Numbers W W' P M c h → height_of W P 0 ≡ 0 → c < M
  fewer h N sink = levelled_fewer (height_of W P) (edge_of W P) (result_of W' P) (records_of W') M c h N.levelled (omega (arith, H.inside)) sink

  -- so of 65,536 nodes there are not too many
  pub not_too_many : {A : Type 0} (h : ℕ) → 65535 < c → Numbers W W' P M c h → height_of W P 0 ≡ 0 → M ≤ 65536 → A
  not_too_many h many N sink few = absurd (omega (arith, fewer h N sink))

  module _ (F : ℕ → ℕ → Bool) (means : Means (height_of W P) (edge_of W P) (result_of W P) F M) (out : List ℕ) where
    -- rule 16
    pub too_many : (h : ℕ) → 65535 < c → h ≤ n → Numbers W W' P M c h → Writes n (along F root) out (refusal 16 0) out
    too_many h many low N =
        writes_refused n (along F root) out 16 0
        (levelled_16 (height_of W P) (edge_of W P) (result_of W' P) (records_of W') n M c h H.nodes.loose N.levelled low many top H.inside H.named
        (result_of W P) F means (λ i l e. sym (N.flags_stay i l e)) (root % 2) (along F root) (λ x l. unfold along in refl) (length out))

    module _ (N : Numbers W W' P M c n) (few : c ≤ 65535) where
      -- and permits what it did
      root_means : (x : ℕ) → x < 2 ^ n → under (records_of W') e x ≡ along F root x
      unfolding along through
      root_means x l =
          turn_under (records_of W') (root % 2) (result_of W' P top) x ∙ ap (flip (root % 2)) (levelled_means (height_of W P) (edge_of W P) (result_of W' P) (records_of W') n M c n H.nodes.loose N.levelled (le_refl n) (result_of W P) F means
          (λ i m z. sym (N.flags_stay i m z)) top H.inside (H.nodes.loose.low top H.inside) x)

      -- so the table has c records
      pub table_counts : node_count n (along F root) ≡ some c
      table_counts = let p = records_proper N in count_is n (along F root) (records_of W') c e p.0 p.1 root_means few H.few_settings

      -- rule 11
      pub no_room : length out < 8 * (c + 1) → Writes n (along F root) out (refusal 11 0) out
      no_room l =
          let p = records_proper N in
          writes_refused n (along F root) out 11 0 (answer_11 n (along F root) (records_of W') c e p.0 p.1 root_means few H.few_settings (length out) l)

      -- or the table is written
      pub wrote : (bytes out' : List ℕ) → Bytes bytes → length bytes ≡ 8 * (c + 1) → 8 * (c + 1) ≤ length out → HoldsTable W' c (record_of n c e) bytes
          → out' ≡ bytes ++ drop (8 * (c + 1)) out → Writes n (along F root) out (value (8 * (c + 1))) out'
      wrote bytes out' b long l T o =
          let p = records_proper N in
          writes_bytes n (along F root) out bytes (8 * (c + 1)) out'
          (answer_bytes n (along F root) (records_of W') c e p.0 p.1 root_means few bytes b long T.first (λ i q. unfold records_of in T.records i q) (length out) l) long o
