-- `console::setupbook_rank` meets its contract. Assumes nothing.
use mathlib.Core.Path.{sym, ap, ◌∙◌}
use Rattle.rules.proofs.Packing.{packed_value, packed_refusal}
use Rattle.ranking.specs.Answers.{ranked_as}
use Rattle.ranking.proofs.Bounds.{ranking_place}
use Rattle.console.proofs.setupbook_rank.Goals as goal

pub pack_refusal-requires : goal.pack_refusal-requires
pack_refusal-requires c = ranking_place _ _ _ _ _ (sym c.rank-ranked.ensures.0 ∙ ap ranked_as c.in-Err.is)

pub returns-in-Ok : goal.returns-in-Ok
returns-in-Ok c = let e = c.rank-ranked.ensures in (packed_value _ _ _ e.0 _ (ap ranked_as c.in-Ok.is), e.1)

pub returns-in-Err : goal.returns-in-Err
returns-in-Err c = let e = c.rank-ranked.ensures in (packed_refusal _ _ _ e.0 _ _ _ (ap ranked_as c.in-Err.is) c.pack_refusal.ensures, e.1)
