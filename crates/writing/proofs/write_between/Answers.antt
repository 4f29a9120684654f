-- `writing::write_between` meets its contract. Assumes nothing.
use Prim.Native.Nat.{◌+◌, ◌*◌}
use mathlib.Core.Path.{refl, ◌∙◌}
use native.Mathlib.Omega.{arith}
use lib.ListN.{drop}
use lib.Seq.{length-take-le}
use Rattle.words.specs.Words.{word_at}
use Rattle.words.proofs.Bytes.{bytes_front}
use Rattle.diagram.specs.Reading.{record_of}
use Rattle.numbering.specs.Renewal.{image}
use Rattle.cutting.specs.Behind.{words_of}
use Rattle.cutting.proofs.Behind.{same_back, same_sizes}
use Rattle.emitting.specs.Emitting.{HoldsRecords}
use Rattle.writing.proofs.Outcomes.{too_many, no_room, wrote}
use Rattle.writing.proofs.write_between.Goals as goal

pub returns-then-built-gt65535 : goal.returns-then-built-gt65535
returns-then-built-gt65535 c = too_many _ _ _ _ _ _ _ _ _ _ c.build-built.ensures.0 _ c.if-built-gt65535.true

pub returns-then-out-end : goal.returns-then-out-end
returns-then-out-end c =
    no_room _ _ _ _ _ _ _ _ _ _ c.build-built.ensures.0 _ c.if-built-gt65535.false c.requires.0.few_settings c.if-out-end.true

pub returns : goal.returns
returns c =
    let m = 8 * (c.build-built.result.records + 1) in
    let l = length-take-le m c.args.out.now c.if-out-end.false in
    let g = c.write_table in
    let b = c.build-built in
    let held = same_sizes (same_back b.ensures.1) (λ n N. HoldsRecords (words_of b.new.cut) (word_at b.new.map) (N + n + n)
    (record_of n b.result.records (image (word_at b.new.map) b.result.edge.value)) g.new.out) g.ensures.0 in
    wrote _ _ _ _ _ _ _ _ _ _ b.ensures.0 _ c.if-built-gt65535.false g.new.out _
    (bytes_front g.new.out (drop m c.args.out.now) (λ i. omega (arith, c.type_inv.out i))) (g.ensures.1 ∙ l) c.if-out-end.false held refl
