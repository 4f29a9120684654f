-- `gathering::lay` meets its contract: three stores. Assumes nothing.
use borrow.Author.Rules.{rules}
use Rattle.gathering.proofs.Laying.{laid_long, laid_marks, node_laid}
use Rattle.gathering.proofs.lay.Goals as goal

pub returns : goal.returns
returns c =
    let p = c.requires in
    let a = c.put_word.ensures in
    let b = c.put_word-2.ensures in
    let d = c.put_word-3.ensures in
    (laid_long _ _ _ _ _ _ _ _ _ p.0 p.1 a b d, node_laid _ _ _ _ _ _ _ _ _ p.0 p.1 a b d (search rules) (search rules) (search rules), laid_marks _ _ _ _ _ _ _ _ _ p.0 p.1 a b d)
