-- `console::setupbook_unrank` meets its contract. Assumes nothing.
use mathlib.Core.Path.{sym, ap, ◌∙◌}
use Rattle.rules.proofs.Packing.{packed_value, packed_refusal}
use Rattle.ranking.specs.Answers.{unranked_as}
use Rattle.ranking.proofs.Bounds.{unranking_place}
use Rattle.console.proofs.setupbook_unrank.Goals as goal

pub pack_refusal-requires : goal.pack_refusal-requires
pack_refusal-requires c = unranking_place _ _ _ _ _ (sym c.unrank-unranked.ensures.0 ∙ ap unranked_as c.in-Err.is)

pub returns-in-Ok : goal.returns-in-Ok
returns-in-Ok c = let e = c.unrank-unranked.ensures in (packed_value _ _ _ e.0 _ (ap unranked_as c.in-Ok.is), e.1)

pub returns-in-Err : goal.returns-in-Err
returns-in-Err c = let e = c.unrank-unranked.ensures in (packed_refusal _ _ _ e.0 _ _ _ (ap unranked_as c.in-Err.is) c.pack_refusal.ensures, e.1)
