-- `tightening::make_loose_proper` meets its contract: the header, the records, the table of what the loose one permits. Assumes nothing.
use Prim.Native.Nat.{◌+◌, ◌*◌, ◌≤◌}
use mathlib.Core.Path.{◌≡◌, sym, ◌∙◌}
use native.Mathlib.Omega.{arith}
use lib.ListN.{length}
use lib.Seq.{length-take-le, length_front}
use Rattle.words.proofs.Laws.{over_front}
use Rattle.rules.proofs.Turns.{err_on}
use Rattle.loose.specs.Inner.{Loosely}
use Rattle.tightening.proofs.Promised.{header_refused, header_holds, header_long, header_few, header_enough, records_refused, records_loosely, tightened}
use Rattle.tightening.proofs.make_loose_proper.Goals as goal
use Rattle.tightening.proofs.make_loose_proper.Goals.{After-header_of-header, In_ok-check_records}

pub returns-in_err-check_header : goal.returns-in_err-check_header
returns-in_err-check_header c =
    rw (err_on c.from_residual.ensures.1) (header_refused _ _ _ _ c.check_header.ensures _ (c.in_err-check_header.was {u = tt}))

pub header_of-header-requires : goal.header_of-header-requires
header_of-header-requires c =
    let a = c.args in
    omega (arith, (header_holds a.table.now a.sheet.now a.out.now _ c.check_header.ensures (c.in_ok-check_header.was {u = tt})).long)

-- the table has its N + 1 words, few enough, and the sheet the places that are needed
sizes : (c : After-header_of-header) → let a = c.args in let N = c.header_of-header.result.nodes in
    (length a.table.now ≡ 8 * (N + 1)) × (N ≤ 65535) × (8 * (8 * N + 512) ≤ length a.sheet.now)
sizes c =
    let a = c.args in
    let v = c.check_header.ensures in
    let q = (c.in_ok-check_header.was {u = tt}) in
    let h = c.header_of-header.ensures in (
      header_long a.table.now a.sheet.now a.out.now _ v q _ _ _ h,
      header_few a.table.now a.sheet.now a.out.now _ v q _ _ _ h,
      header_enough a.table.now a.sheet.now a.out.now _ v q _ _ _ h,
    )

pub check_records-requires : goal.check_records-requires
check_records-requires c = omega (arith, (sizes c).0)

pub returns-in_err-check_records : goal.returns-in_err-check_records
returns-in_err-check_records c =
    rw (err_on c.from_residual-in_err-check_records.ensures.1)
    (records_refused _ _ _ _ c.check_header.ensures (c.in_ok-check_header.was {u = tt}) _ _ _ c.header_of-header.ensures _ c.check_records.ensures _ (c.in_err-check_records.was {u = tt}))

loosely : (c : In_ok-check_records) → Loosely c.args.table.now c.header_of-header.result.settings c.header_of-header.result.nodes
loosely c =
    let a = c.args in
    records_loosely a.table.now a.sheet.now a.out.now _ c.check_header.ensures (c.in_ok-check_header.was {u = tt}) _ _ _ c.header_of-header.ensures _ c.check_records.ensures (c.in_ok-check_records.was {u = tt})

pub overflow_add-end : goal.overflow_add-end
overflow_add-end c = record { fits = omega (arith, (sizes (goal.at.overflow_add-end c).After-header_of-header).1) }

pub overflow_mul-end : goal.overflow_mul-end
overflow_mul-end c = record { fits = omega (arith, (sizes (goal.at.overflow_mul-end c).After-header_of-header).1) }

pub slice_bounds-tighten-end : goal.slice_bounds-tighten-end
slice_bounds-tighten-end c = omega (arith, (sizes (goal.at.slice_bounds-tighten-end c).After-header_of-header).2)

pub slice_bounds-tighten-end-2 : goal.slice_bounds-tighten-end-2
slice_bounds-tighten-end-2 c =
    sym (length-take-le (40 * (c.header_of-header.result.nodes + 1)) c.args.sheet.now (omega (arith, (sizes (goal.at.slice_bounds-tighten-end-2 c).After-header_of-header).2)))

pub tighten-written-requires : goal.tighten-written-requires
tighten-written-requires c =
    let l = length-take-le (40 * (c.header_of-header.result.nodes + 1)) c.args.sheet.now (omega (arith, (sizes (goal.at.tighten-written-requires c).After-header_of-header).2)) in
    (loosely (goal.at.tighten-written-requires c).In_ok-check_records, c.header_of-header.ensures, omega (arith, l))

pub blank-requires : goal.blank-requires
blank-requires c =
    let s = c.args.sheet.now in
    let w = c.tighten-written in
    omega (arith, (sizes (goal.at.blank-requires c).After-header_of-header).2, length_front s w.new.sheet (40 * (c.header_of-header.result.nodes + 1)) w.auto.sheet)

pub returns : goal.returns
returns c =
    let s = c.args.sheet.now in
    let N = c.header_of-header.result.nodes in
    let w = c.tighten-written in
    let l = length-take-le (40 * (N + 1)) s (omega (arith, (sizes (goal.at.returns c).After-header_of-header).2)) in
    tightened _ _ _ _ _ (loosely (goal.at.returns c).In_ok-check_records) (sizes (goal.at.returns c).After-header_of-header).2 _ _ _ w.ensures (c.blank.ensures ∙ over_front _ (8 * N + 512) (40 * (N + 1)) w.new.sheet s (w.auto.sheet ∙ l) (omega arith))

pub overflow_mul-nodes : goal.overflow_mul-nodes
overflow_mul-nodes c = record { fits = omega (arith, (sizes (goal.at.overflow_mul-nodes c).After-header_of-header).1) }

pub overflow_add-nodes : goal.overflow_add-nodes
overflow_add-nodes c = record { fits = omega (arith, (sizes (goal.at.overflow_add-nodes c).After-header_of-header).1) }
