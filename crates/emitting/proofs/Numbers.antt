-- Writing the new records one after the other. Assumes nothing.
use Prim.Native.Nat.{ℕ, zero, suc, ◌+◌, ◌-◌, ◌*◌, ◌/◌, ◌≤◌, ◌<◌}
use mathlib.Core.Path.{◌≡◌, refl, sym, ap, ◌∙◌}
use mathlib.Core.Bool.{Bool}
use mathlib.Core.List.{List}
use native.Mathlib.Omega.{arith}
use lib.ListN.{length}
use Rattle.words.specs.Words.{word_at, put_word}
use Rattle.words.proofs.Cases.{Tri, less, same, more, tri}
use Rattle.words.proofs.Stores.{Updated, put_updated}
use Rattle.diagram.specs.Format.{Words, height, then_edge, else_edge}
use Rattle.diagram.specs.Reading.{record_of}
use Rattle.diagram.proofs.Paths.{side, side_node}
use Rattle.numbering.specs.Renewal.{image, renew, StaysPlain}
use Rattle.numbering.specs.Numbered.{Good, dropped, made, Closed, PlainTable, Finished}
use Rattle.numbering.proofs.Images.{renew_node}
use Rattle.numbering.proofs.Plain.{stays_plain, edges_differ}
use Rattle.emitting.specs.Emitting.{record_number, HasRecord, Emitted, quiet, wrote, NumbersFit, HoldsRecords}

module _ (R W : Words) (n M c root : ℕ) (F : Finished R W n M c root) where
  -- a node with a new record has its number
  numbered : (v : ℕ) → v < M → HasRecord W (suc v) (R (suc v)) → (j : ℕ) × (j < c) × (record_number W (suc v) ≡ suc j) × (F.list (suc j) ≡ renew W (R (suc v)))
  unfolding record_number then_edge else_edge
  numbered v l O = go (F.numbered.good v l O.live l)
    where
      go : Good (height R (suc v)) (image W (then_edge R (suc v))) (image W (else_edge R (suc v))) (W (suc v)) F.list c
          → (j : ℕ) × (j < c) × ((W (suc v) - 1) / 2 ≡ suc j) × (F.list (suc j) ≡ renew W (R (suc v)))
      go (dropped e x) = absurd (O.apart e)
      go (made j i e x f) = (j, i, omega arith, f ∙ sym (renew_node R W v))

  -- so the numbers fit
  pub numbers_fit : (size : ℕ) → 8 * c + 8 ≤ size → NumbersFit R W M size
  numbers_fit size long = record {
    some = λ v l O. let a = numbered v l O in omega (arith, a.2);
    room = λ v l O. let a = numbered v l O in omega (arith, a.1, a.2);
    one = λ u v l m O P q. let a = numbered u l O in let b = numbered v m P in sym a.3 ∙ ap F.list (sym a.2 ∙ q ∙ b.2) ∙ b.3;
  }

  -- all records stand in their places
  pub records_all : (header : ℕ) (out : List ℕ) → HoldsRecords R W M header out → (i : ℕ) → i < c → word_at out (suc i) ≡ F.list (suc i)
  unfolding record_number then_edge else_edge
  records_all header out G i l =
      let s = F.numbered.source i l in
      let e : (W (suc s.node) - 1) / 2 ≡ suc i = omega (arith, s.number) in
      ap (word_at out) (sym e) ∙ G.records s.node s.inside (record { live = s.live; apart = s.apart }) ∙ renew_node R W s.node ∙ sym s.makes

module _ (R W : Words) (header : ℕ) (out : List ℕ) where
  -- before the first node
  pub records_none : word_at out 0 ≡ header → HoldsRecords R W 0 header out
  records_none e = record { first = e; records = λ v l. absurd (omega arith) }

  -- one node more
  module _ (M v : ℕ) (inside : v < M) (P : NumbersFit R W M (length out)) (G : HoldsRecords R W v header out) (out' : List ℕ) where
    records_next : Emitted W out out' (suc v) (R (suc v)) → HoldsRecords R W (suc v) header out'
    records_next (quiet k e) = rw e (record {
      first = G.first;
      records = λ u m O. elim (tri u v) [ less q ↦ G.records u q O | same q ↦ absurd (k (rw q at O)) | more q ↦ absurd (omega arith) ];
    })
    records_next (wrote O s e) = rw e (record {
      first = U.other 0 (λ q. omega (arith, P.some v inside O)) ∙ G.first;
      records = λ u m Q. elim (tri u v) [ less q ↦ before u q Q (tri (record_number W (suc u)) (record_number W (suc v))) | same q ↦ rw q U.here | more q ↦ absurd (omega arith) ];
    })
      where
        U : Updated (word_at out) (word_at (put_word out (record_number W (suc v)) (renew W (R (suc v))))) (record_number W (suc v)) (renew W (R (suc v)))
        U = put_updated out (record_number W (suc v)) (renew W (R (suc v))) (P.room v inside O) s

        before : (u : ℕ) → u < v → HasRecord W (suc u) (R (suc u)) → Tri (record_number W (suc u)) (record_number W (suc v))
            → word_at (put_word out (record_number W (suc v)) (renew W (R (suc v)))) (record_number W (suc u)) ≡ renew W (R (suc u))
        before u q Q (less p) = U.other (record_number W (suc u)) (λ r. omega arith) ∙ G.records u q Q
        before u q Q (more p) = U.other (record_number W (suc u)) (λ r. omega arith) ∙ G.records u q Q
        before u q Q (same p) = rw p U.here ∙ sym (P.one u v (omega arith) inside Q O p)

-- node v of a table that keeps its order has a new record, if it is kept, and its then-edge stays plain
pub table_plain : (R W : Words) (n N M v z : ℕ) → N ≤ M → Closed R W M → PlainTable R W n N → 0 < v → v ≤ N → z ≡ R v → 0 < W v → StaysPlain W z × HasRecord W v z
unfolding then_edge else_edge
table_plain R W n N M zero z m C T s l e = absurd (omega arith)
table_plain R W n N M (suc v) z m C T s l e =
    rw e (λ k. (
      stays_plain R W n N M (N + 1) T.table m C T.kept v l k before,
      record { live = k; apart = edges_differ R W n N M (N + 1) T.table m C T.kept v l k before },
    ))
  where
    before : (b : Bool) → side R b (suc v) / 2 < N + 1
    before b = omega (arith, side_node R n N T.table.ordered b v l)

-- the turn of the loop at node v, of record z: there is room for its new record
pub next_room : (R W : Words) (M size v z : ℕ) → NumbersFit R W M size → 0 < v → v ≤ M → z ≡ R v → (out : List ℕ) → length out ≡ size → HasRecord W v z → 8 * record_number W v + 8 ≤ length out
next_room R W M size zero z P s l e out long O = absurd (omega arith)
next_room R W M size (suc v) z P s l e out long O = rw long (P.room v l (rw e at O))

-- ... and it is written
pub next_records : (R W : Words) (M size v z : ℕ) → NumbersFit R W M size → 0 < v → v ≤ M → z ≡ R v → (header : ℕ) (out out' : List ℕ) → length out ≡ size → HoldsRecords R W (v - 1) header out
    → Emitted W out out' v z → HoldsRecords R W v header out'
next_records R W M size zero z P s l e header out out' long G E = absurd (omega arith)
next_records R W M size (suc v) z P s l e header out out' long G E =
    let d : suc v - 1 ≡ v = omega arith in
    records_next R W header out M v l (rw (← long) at P) (rw d at G) out' (rw e at E)

-- nodes 1 to v are nodes 1 to m
pub records_as : (R W : Words) (header : ℕ) (out : List ℕ) (v m : ℕ) → v ≡ m → HoldsRecords R W v header out → HoldsRecords R W m header out
records_as R W header out v m e G = rw (← e) G

-- the first word is the header
pub records_own : {R W : Words} {m header : ℕ} {out : List ℕ} → HoldsRecords R W m header out → HoldsRecords R W m (word_at out 0) out
records_own G = record { first = refl; records = G.records }

-- the header stands first
pub records_header : (R W : Words) (M n c e a word : ℕ) (out out₁ out₂ out' : List ℕ) → 8 ≤ length out → word < 18446744073709551616 → a ≡ image W e → word ≡ record_of n c a → out₁ ≡ put_word out 0 word
    → word_at out₂ 0 ≡ word_at out₁ 0 → HoldsRecords R W M (word_at out₂ 0) out' → HoldsRecords R W M (record_of n c (image W e)) out'
records_header R W M n c e a word out out₁ out₂ out' l s a-is word_is p kept G = record {
  first = G.first ∙ kept ∙ ap (λ (x : List ℕ). word_at x 0) p ∙ (put_updated out 0 word (omega arith) s).here ∙ word_is ∙ ap (record_of n c) a-is;
  records = G.records;
}
