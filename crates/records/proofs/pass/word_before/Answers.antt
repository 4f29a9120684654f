-- `records::pass::word_before` meets its contract. Assumes nothing.
use borrow.Author.Tests.{lt-ltb, le-ltb}
use Rattle.records.proofs.pass.word_before.Goals as goal

pub returns-then-k-gt1 : goal.returns-then-k-gt1
returns-then-k-gt1 c = rw (lt-ltb _ _ c.if-k-gt1.true) c.word_at.ensures

pub returns-else-k-gt1 : goal.returns-else-k-gt1
returns-else-k-gt1 c = rw (le-ltb _ _ c.if-k-gt1.false)
