-- `gathering::meet` meets its contract: a mark, and a word. Assumes nothing.
use mathlib.Core.Path.{refl}
use borrow.Author.Rules.{rules}
use Rattle.gathering.proofs.Meeting.{meets}
use Rattle.gathering.proofs.meet.Goals as goal

pub returns : goal.returns
returns c =
    let p = c.requires in
    meets _ _ _ _ _ _ p.0 p.1 p.2 p.3 refl c.put_word.ensures (search rules) _ refl
