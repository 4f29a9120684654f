-- `checking::begin_with` meets its contract: the header, then the diagram, and zeros after 9. Assumes nothing.
use Prim.Native.Nat.{◌+◌, ◌*◌, ◌/◌, ◌≤◌}
use mathlib.Core.Path.{refl, ap}
use mathlib.Core.Bool.{false}
use native.Mathlib.Omega.{arith}
use lib.ListN.{length}
use Rattle.rules.specs.Refusals.{number_of}
use Rattle.rules.proofs.Turns.{err_on}
use Rattle.diagram.proofs.Accept.{Headed}
use Rattle.rules.proofs.Numbers.{not_nine}
use Rattle.rules.proofs.Headers.{need_fits}
use Rattle.checking.proofs.Compose.{header_refused, header_holds, headed_places, diagram_passed, diagram_refused, diagram_kept, diagram_zeroed}
use Rattle.checking.proofs.begin_with.Goals as goal
use Rattle.checking.proofs.begin_with.Goals.{In-Unnamed, In_ok-check_header}

pub returns-in_err-check_header : goal.returns-in_err-check_header
returns-in_err-check_header c =
    let r = header_refused _ _ _ _ c.check_header.ensures _ (c.in_err-check_header.was {u = tt}) in
    rw (err_on c.from_residual.ensures.1) (record { answers = r.0; lends = r.1 })

passed : (c : In_ok-check_header) → let a = c.args in Headed false a.table.now (length a.sheet.now / 8) (λ N. a.each * N + a.more)
passed c = let a = c.args in header_holds _ a.table.now a.sheet.now _ c.check_header.ensures (c.in_ok-check_header.was {u = tt})

pub header_of-header-requires : goal.header_of-header-requires
header_of-header-requires c = omega (arith, (passed c).long)

pub check_diagram-requires : goal.check_diagram-requires
check_diagram-requires c = let h = passed (goal.at.check_diagram-requires c).In_ok-check_header in let e = c.header_of-header.ensures.nodes_is in (omega (arith, h.long), omega (arith, h.few))

places : (c : In-Unnamed) → let a = c.args in let N = c.header_of-header.result.nodes in
    (a.each * N ≤ 4194240) × (8 * (a.each * N + a.more) ≤ length a.sheet.now)
places c =
    let h = passed (goal.at.In-Unnamed c).In_ok-check_header in
    let p = c.requires in
    let e = c.header_of-header.ensures.nodes_is in
    let f = need_fits _ c.header_of-header.result.nodes p.0 (omega (arith, h.few)) in
    (f, headed_places (λ N. _ * N + _) _ _ h _ e)

pub overflow_mul-each : goal.overflow_mul-each
overflow_mul-each c = record { fits = omega (arith, (places (goal.at.overflow_mul-each c).In-Unnamed).0) }

pub overflow_add-each : goal.overflow_add-each
overflow_add-each c = record { fits = omega (arith, (places (goal.at.overflow_add-each c).In-Unnamed).0, c.requires.1) }

pub blank-requires : goal.blank-requires
blank-requires c = omega (arith, (places (goal.at.blank-requires c).In-Unnamed).1)

pub returns-in-Unnamed : goal.returns-in-Unnamed
returns-in-Unnamed c =
    let v = c.check_header.ensures in
    let q = c.in_ok-check_header.was {u = tt} in
    let d = c.check_diagram.ensures in
    record {
      answers = diagram_refused _ _ _ _ v q _ _ _ c.header_of-header.ensures _ d _ c.in-Err.is;
      lends = diagram_zeroed _ _ _ _ v q _ _ _ c.header_of-header.ensures _ d _ c.in-Err.is _ refl (ap number_of c.in-Unnamed.is) _ c.blank.ensures;
    }

pub returns-in_default : goal.returns-in_default
returns-in_default c =
    let v = c.check_header.ensures in
    let q = c.in_ok-check_header.was {u = tt} in
    let d = c.check_diagram.ensures in
    record {
      answers = diagram_refused _ _ _ _ v q _ _ _ c.header_of-header.ensures _ d _ c.in-Err.is;
      lends = diagram_kept _ _ _ _ v q _ _ _ c.header_of-header.ensures _ d _ c.in-Err.is _ refl (not_nine _ c.in_default.not-Unnamed);
    }

pub returns-in-Ok : goal.returns-in-Ok
returns-in-Ok c =
    record {
      answers = diagram_passed _ _ _ _ c.check_header.ensures (c.in_ok-check_header.was {u = tt}) _ _ _ c.header_of-header.ensures _ c.check_diagram.ensures c.in-Ok.is;
      lends = (c.header_of-header.ensures, refl);
    }
