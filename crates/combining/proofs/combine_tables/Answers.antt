-- `combining::combine_tables` meets its contract: rule 19, then the root edges, and the pair sheet is blanked. Assumes nothing.
use Prim.Native.Nat.{◌*◌, ◌/◌}
use mathlib.Core.Path.{refl, sym, ◌∙◌}
use native.Mathlib.Omega.{arith}
use lib.ListN.{length}
use lib.Seq.{length-take-le, length_front}
use Rattle.combining.proofs.Outcomes.{unequal, equal_tables, checked_diagram}
use Rattle.combining.proofs.combine_tables.Goals as goal

pub header_of-first-requires : goal.header_of-first-requires
header_of-first-requires c = omega (arith, c.requires.0.2.long)

pub header_of-second-requires : goal.header_of-second-requires
header_of-second-requires c = omega (arith, c.requires.1.2.long)

pub returns-then-first-second : goal.returns-then-first-second
returns-then-first-second c =
    unequal _ _ _ _ _ _ _ _ _ _ _ c.header_of-first.ensures c.header_of-second.ensures c.if-first-second.true

pub slice_bounds-combine_roots-end : goal.slice_bounds-combine_roots-end
slice_bounds-combine_roots-end c = omega arith

pub slice_bounds-combine_roots-end-2 : goal.slice_bounds-combine_roots-end-2
slice_bounds-combine_roots-end-2 c =
    let s = c.args.pairs.now in
    sym (length-take-le (32 * (length s / 32)) s (omega arith))

pub combine_roots-written-requires : goal.combine_roots-written-requires
combine_roots-written-requires c =
    let s = c.args.pairs.now in
    let l = length-take-le (32 * (length s / 32)) s (omega arith) in (
      checked_diagram _ c.requires.0 c.header_of-first.ensures,
      rw c.if-first-second.false (checked_diagram _ c.requires.1 c.header_of-second.ensures),
      omega (arith, l),
    )

pub blank-requires : goal.blank-requires
blank-requires c =
    let s = c.args.pairs.now in
    let w = c.combine_roots-written in
    omega (arith, length_front s w.new.sheet (32 * (length s / 32)) w.auto.sheet)

pub returns : goal.returns
returns c =
    let args = c.args in
    let s = args.pairs.now in
    let w = c.combine_roots-written in
    equal_tables args.op args.table1.now args.table2.now s args.out.now _ _ _ _ _ _ c.header_of-first.ensures c.header_of-second.ensures c.if-first-second.false (length s / 32) refl _ _ w.new.sheet
    w.ensures (w.auto.sheet ∙ length-take-le (32 * (length s / 32)) s (omega arith)) _ c.blank.ensures
