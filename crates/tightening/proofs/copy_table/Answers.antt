-- `tightening::copy_table` meets its contract: rule 11, or the words one by one. Assumes nothing.
use Prim.Native.Nat.{◌+◌, ◌*◌}
use mathlib.Core.Path.{refl, sym, ◌∙◌}
use native.Mathlib.Omega.{arith}
use lib.ListN.{drop}
use lib.Seq.{length-take-le}
use Rattle.words.proofs.Bytes.{bytes_front}
use Rattle.tightening.proofs.Copies.{copy_refused, copy_written}
use Rattle.tightening.proofs.copy_table.Goals as goal

pub overflow_add-end : goal.overflow_add-end
overflow_add-end c = record { fits = omega (arith, c.requires.few) }

pub overflow_mul-end : goal.overflow_mul-end
overflow_mul-end c = record { fits = omega (arith, c.requires.few) }

pub returns-then-out-end : goal.returns-then-out-end
returns-then-out-end c =
    copy_refused _ _ _ (λ i. omega (arith, c.type_inv.table i)) c.requires _ c.if-out-end.true

pub slice_bounds-copy_words-end-2 : goal.slice_bounds-copy_words-end-2
slice_bounds-copy_words-end-2 c =
    sym (length-take-le (8 * (c.args.nodes + 1)) c.args.out.now c.if-out-end.false)

pub overflow_add-nodes : goal.overflow_add-nodes
overflow_add-nodes c = record { fits = omega (arith, c.requires.few) }

pub copy_words-requires : goal.copy_words-requires
copy_words-requires c =
    let l = length-take-le (8 * (c.args.nodes + 1)) c.args.out.now c.if-out-end.false in
    (omega (arith, c.requires.long), omega (arith, l))

pub returns : goal.returns
returns c =
    let m = 8 * (c.args.nodes + 1) in
    let out = c.args.out.now in
    let g = c.copy_words in
    copy_written _ _ _ (λ i. omega (arith, c.type_inv.table i)) c.requires _ g.new.out _ c.if-out-end.false
    (bytes_front g.new.out (drop m out) (λ i. omega (arith, c.type_inv.out i))) (g.ensures.1 ∙ length-take-le m out c.if-out-end.false) g.ensures.0 refl
