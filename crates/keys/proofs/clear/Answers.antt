-- `keys::clear` meets its contract. Assumes nothing.
use mathlib.Core.Path.{ap, ◌∙◌}
use borrow.Author.Rules.{rules}
use lib.ListN.{replicate}
use Rattle.std.proofs.lemmas.List.{places}
use Rattle.keys.proofs.Clearing.{cleared}
use Rattle.keys.proofs.clear.Goals as goal

pub returns : goal.returns
returns c = cleared _ _ _ c.requires (c.fill.ensures.after (λ y e. e) ∙ ap (λ m. replicate m 0) (search (rules, places)))
