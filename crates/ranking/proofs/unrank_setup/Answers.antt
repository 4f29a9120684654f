-- `ranking::unrank_setup` meets its contract. Assumes nothing.
use Prim.Native.Nat.{◌^◌}
use mathlib.Core.Path.{◌≡◌}
use Rattle.words.specs.Words.{word_at}
use Rattle.diagram.specs.Meaning.{under}
use Rattle.diagram.specs.Count.{count_below}
use Rattle.counting.specs.Inner.{Opens}
use Rattle.counting.proofs.Filling.{root_opens}
use Rattle.checking.proofs.Lending.{filled_past}
use Rattle.ranking.proofs.Answering.{too_high, unranked_to}
use Rattle.ranking.proofs.unrank_setup.Goals as goal
use Rattle.ranking.proofs.unrank_setup.Goals.{After-count_under-c, After-fill}

pub fill-requires : goal.fill-requires
fill-requires c = let C = c.requires in (C.holds, C.reduced, C.room)

opens : (c : After-fill) → let a = c.args in Opens a.table.now c.fill.new.sheet a.e.value a.n
opens c = (root_opens _ _ _ _ _ _ c.requires c.fill.ensures).1

pub count_under-c-requires : goal.count_under-c-requires
count_under-c-requires c = (_, opens (goal.at.count_under-c-requires c).After-fill)

-- ... and is
counted : (c : After-count_under-c) → let a = c.args in
    c.count_under-c.result ≡ count_below (under (word_at a.table.now) a.e.value) (2 ^ a.n)
counted c = c.count_under-c.ensures _ (opens (goal.at.After-count_under-c c).After-fill)

pub returns-then-c-r : goal.returns-then-c-r
returns-then-c-r c =
    (too_high _ _ _ (rw (← counted (goal.at.returns-then-c-r c).After-count_under-c) c.if-c-r.true), filled_past _ _ _ _ c.fill.ensures)

pub descend-requires : goal.descend-requires
descend-requires c =
    (opens (goal.at.descend-requires c).After-fill, rw (← counted (goal.at.descend-requires c).After-count_under-c) c.if-c-r.false)

pub returns : goal.returns
returns c =
    (unranked_to _ _ _ _ c.descend.ensures, filled_past _ _ _ _ c.fill.ensures)
