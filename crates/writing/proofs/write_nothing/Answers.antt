-- `writing::write_nothing` meets its contract. Assumes nothing.
use Rattle.writing.proofs.Nothing.{nothing_short, nothing_written}
use Rattle.writing.proofs.write_nothing.Goals as goal

pub returns-then-out-lt8 : goal.returns-then-out-lt8
returns-then-out-lt8 c = nothing_short _ c.requires _ c.if-out-lt8.true

pub returns : goal.returns
returns c =
    nothing_written _ c.requires _ c.if-out-lt8.false _ c.word.ensures _ c.put_word.ensures
