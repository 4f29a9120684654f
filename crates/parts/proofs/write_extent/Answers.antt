-- `parts::write_extent` meets its contract. Assumes nothing.
use mathlib.Core.Path.{refl, sym}
use native.Mathlib.Omega.{arith}
use Rattle.words.specs.Words.{word_at}
use Rattle.diagram.specs.Meaning.{under}
use Rattle.diagram.proofs.Select.{select_some}
use Rattle.parts.proofs.Ends.{extent_fits, none_written, some_written}
use Rattle.checking.proofs.Lending.{lent_past}
use Rattle.parts.proofs.Lending.{lent_long, lent_room}
use Rattle.parts.proofs.write_extent.Goals as goal

pub returns-then-extent-eq0 : goal.returns-then-extent-eq0
returns-then-extent-eq0 c = (none_written _ _ _ _ c.if-extent-eq0.true c.write_nothing.ensures, refl)

pub overflow_add-last : goal.overflow_add-last
overflow_add-last c =
    let l = extent_fits c.args.n (under (word_at c.args.table.now) c.args.root.value) c.args.extent.start.0 c.args.extent.size c.requires.1.few c.requires.3 in
    record { fits = omega (arith, l, c.if-extent-eq0.false) }

pub slice_bounds-write_between-end-2 : goal.slice_bounds-write_between-end-2
slice_bounds-write_between-end-2 c = sym (lent_long _ _ c.requires.2)

pub write_between-requires : goal.write_between-requires
write_between-requires c =
    let p = c.requires in (
      lent_room _ _ p.2 _ _ p.0.holds.long p.1.few p.0.holds.few,
      p.0.reduced,
      p.0.inside,
      (select_some _ _ _ _ c.descend-lo.ensures).below,
      (select_some _ _ _ _ c.descend-hi.ensures).below,
    )

pub returns : goal.returns
returns c =
    let w = c.write_between in (
      some_written _ _ _ _ _ _ c.if-extent-eq0.false c.descend-lo.ensures c.descend-hi.ensures w.ensures,
      lent_past _ _ w.new.map c.requires.2 w.auto.map,
    )
