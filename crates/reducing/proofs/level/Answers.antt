-- `reducing::level` meets its contract. Assumes nothing.
use mathlib.Core.Path.{◌≡◌, ◌∙◌}
use native.Mathlib.Omega.{arith}
use lib.ListN.{length}
use Rattle.words.specs.Words.{word_at}
use Rattle.reducing.specs.Steps.{Nodes, Ready, Countable}
use Rattle.reducing.proofs.Collecting.{collected_low}
use Rattle.reducing.proofs.Raising.{raised}
use Rattle.reducing.proofs.Searching.{settled, countable, search_leaves}
use Rattle.reducing.proofs.Passing.{carrying, pass_leaves}
use Rattle.reducing.proofs.level.Goals as goal
use Rattle.reducing.proofs.level.Goals.{After-sort, After-unique-r}

pub sort-requires : goal.sort-requires
sort-requires c =
    let p = c.requires in
    let e = c.collect-end.ensures in
    let C = e.1 p.1.0 p.1.1 in
    (C.up, omega (arith, p.0, e.0, collected_low p.1.0 _ _ _ _ _ p.1.1 _ _ C))

-- the length has stayed
long : (c : After-sort) → length c.sort.new.bytes ≡ length c.args.sheet.now
long c = c.sort.ensures.long ∙ c.collect-end.ensures.0

pub number_carried-requires : goal.number_carried-requires
number_carried-requires c =
    let p = c.requires in
    let D = p.1.0 in
    let R = p.1.1 in
    (omega (arith, p.0, long (goal.at.number_carried-requires c).After-sort), R.low, carrying D _ _ _ _ _ _ _ _ R (c.collect-end.ensures.1 D R) c.sort.ensures c.if-few.true)

pub returns-then-few : goal.returns-then-few
returns-then-few c =
    let e = c.number_carried.ensures in (
      e.0 ∙ long (goal.at.returns-then-few c).After-sort,
      λ D R. raised D _ _ _ _ _ _ _ R (pass_leaves D _ _ _ _ _ _ _ _ R (c.collect-end.ensures.1 D R) c.sort.ensures c.if-few.true _ _ e.1),
    )

pub unique-r-requires : goal.unique-r-requires
unique-r-requires c =
    let p = c.requires in
    let C = c.collect-end.ensures.1 p.1.0 p.1.1 in
    (C.up, omega (arith, p.0, long (goal.at.unique-r-requires c).After-sort, collected_low p.1.0 _ _ _ _ _ p.1.1 _ _ C), c.sort.ensures.ascending)

-- the nodes can be numbered, whatever they are
numberable : (c : After-unique-r) (D : Nodes)
    → Ready c.args.few D (word_at c.args.sheet.now) c.args.p c.args.c c.args.h c.args.first
    → Countable D (word_at c.unique-r.new.bytes) c.args.p c.args.c c.unique-r.result c.args.h c.args.first
numberable c D R =
    countable D _ _ _ _ _ _ _ _ _ R (c.collect-end.ensures.1 D R) (settled c.sort.ensures c.unique-r.ensures) c.if-few.false

-- the length has stayed
long-unique : (c : After-unique-r) → length c.unique-r.new.bytes ≡ length c.args.sheet.now
long-unique c = c.unique-r.ensures.long ∙ long (goal.at.After-unique-r c).After-sort

pub number-requires : goal.number-requires
number-requires c =
    let p = c.requires in
    (omega (arith, p.0, long-unique (goal.at.number-requires c).After-unique-r), (p.1.0, numberable (goal.at.number-requires c).After-unique-r p.1.0 p.1.1))

pub returns : goal.returns
returns c =
    let e = c.number.ensures in (
      e.0 ∙ long-unique (goal.at.returns c).After-unique-r,
      λ D R. raised D _ _ _ _ _ _ _ R (search_leaves D _ _ _ _ _ _ _ _ _ R (c.collect-end.ensures.1 D R) (settled c.sort.ensures c.unique-r.ensures)
          c.if-few.false _ (e.1 D (numberable (goal.at.returns c).After-unique-r D R))),
    )
