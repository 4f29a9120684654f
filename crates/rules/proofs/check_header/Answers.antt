-- `rules::check_header` meets its contract: the rules of the header in their order. Assumes nothing.
use Prim.Native.Nat.{◌+◌, ◌*◌}
use native.Mathlib.Omega.{arith}
use Rattle.rules.proofs.Headers.{need_fits, too_short, too_many, wrong_length, wrong_root_lem, too_few, header_passes}
use Rattle.rules.proofs.check_header.Goals as goal

pub returns-then-table-lt8 : goal.returns-then-table-lt8
returns-then-table-lt8 c =
    too_short _ _ _ (λ N. c.args.each * N + c.args.more) c.if-table-lt8.true

pub returns-then-nodes-gt65535 : goal.returns-then-nodes-gt65535
returns-then-nodes-gt65535 c =
    too_many _ _ _ (λ N. c.args.each * N + c.args.more) c.if-table-lt8.false _ _ _ c.header_of-header.ensures c.if-nodes-gt65535.true

pub returns-then-table-nodes : goal.returns-then-table-nodes
returns-then-table-nodes c =
    wrong_length _ _ _ (λ N. c.args.each * N + c.args.more) c.if-table-lt8.false _ _ _ c.header_of-header.ensures c.if-nodes-gt65535.false c.if-table-nodes.true

pub returns-then-is_wrong_root : goal.returns-then-is_wrong_root
returns-then-is_wrong_root c =
    wrong_root_lem _ _ _ (λ N. c.args.each * N + c.args.more) c.if-table-lt8.false _ _ _ c.header_of-header.ensures
    c.if-nodes-gt65535.false c.if-table-nodes.false _ c.node.ensures _ c.is_wrong_root.ensures c.if-is_wrong_root.true

pub returns-then-places-each : goal.returns-then-places-each
returns-then-places-each c =
    too_few _ _ _ (λ N. c.args.each * N + c.args.more) c.if-table-lt8.false _ _ _ c.header_of-header.ensures
    c.if-nodes-gt65535.false c.if-table-nodes.false _ c.node.ensures _ c.is_wrong_root.ensures c.if-is_wrong_root.false c.if-places-each.true

pub returns : goal.returns
returns c =
    header_passes _ _ _ (λ N. c.args.each * N + c.args.more) c.if-table-lt8.false _ _ _ c.header_of-header.ensures
    c.if-nodes-gt65535.false c.if-table-nodes.false _ c.node.ensures _ c.is_wrong_root.ensures c.if-is_wrong_root.false c.if-places-each.false

pub overflow_mul-each : goal.overflow_mul-each
overflow_mul-each c = omega (arith, need_fits _ _ c.requires.0 c.if-nodes-gt65535.false)

pub overflow_add-each : goal.overflow_add-each
overflow_add-each c = omega (arith, need_fits _ _ c.requires.0 c.if-nodes-gt65535.false)
