-- `compiling::write_root` meets its contract: the nodes are numbered, and the table written where there is one and room for it. Assumes nothing.
use Prim.Native.Nat.{◌+◌, ◌*◌}
use mathlib.Core.Path.{refl, ◌∙◌}
use native.Mathlib.Omega.{arith}
use lib.ListN.{drop}
use lib.Seq.{length-take-le}
use Rattle.words.proofs.Bytes.{bytes_front}
use Rattle.compiling.proofs.Outcomes.{root_small, too_many, not_too_many, fewer, table_counts, no_room, wrote}
use Rattle.compiling.proofs.write_root.Goals as goal

pub returns-in_default : goal.returns-in_default
returns-in_default c =
    let p = c.requires in
    let o = c.in_default.ensures.1 in
    record {
      writes = λ F means. too_many _ _ _ _ _ p _ _ F means _ _ o.2 o.3 o.4;
      counts = λ F means. not_too_many _ _ _ _ _ p _ _ _ o.2 o.4;
    }

pub returns-then-out-end : goal.returns-then-out-end
returns-then-out-end c =
    let p = c.requires in
    let o = c.in-Some.ensures.1 in
    record {
      writes = λ F means. no_room _ _ _ _ _ p _ _ F means _ o.2 o.0 c.if-out-end.true;
      counts = λ F means sink few. (_, fewer _ _ _ _ _ p _ _ _ o.2 sink, table_counts _ _ _ _ _ p _ _ F means c.args.out.now o.2 o.0);
    }

pub write_table-requires : goal.write_table-requires
write_table-requires c =
    let p = c.requires in
    let o = c.in-Some.ensures.1 in
    let l = length-take-le (8 * (c.in-Some.records + 1)) c.args.out.now c.if-out-end.false in
    let f = p.nodes.few in (
      omega (arith, o.1, c.in-Some.ensures.0, p.long),
      omega (arith, l),
      p.few_settings,
      o.0,
      omega (arith, c.through_of-top.ensures, root_small _ _ _ _ _ p _ _ o.2 o.0),
    )

pub returns : goal.returns
returns c =
    let p = c.requires in
    let o = c.in-Some.ensures.1 in
    let out = c.args.out.now in
    let m = 8 * (c.in-Some.records + 1) in
    let l = length-take-le m out c.if-out-end.false in
    let g = c.write_table in
    record {
      writes = λ F means. wrote _ _ _ _ _ p _ _ F means _ o.2 o.0 g.new.out _
          (bytes_front g.new.out (drop m out) (λ i. omega (arith, c.type_inv.out i))) (g.ensures.1 ∙ l) c.if-out-end.false
          (rw (← c.through_of-top.ensures) g.ensures.0) refl;
      counts = λ F means sink few. (_, fewer _ _ _ _ _ p _ _ _ o.2 sink, table_counts _ _ _ _ _ p _ _ F means out o.2 o.0);
    }
