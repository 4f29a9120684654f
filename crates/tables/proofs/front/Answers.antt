-- `tables::front` meets its contract. Assumes nothing.
use mathlib.Core.Path.{sym}
use borrow.Author.Tests.{le-leb, lt-leb}
use lib.Seq.{length-take-le}
use Rattle.tables.specs.Writing.{front_of}
use Rattle.tables.proofs.front.Goals as goal

pub returns-then-bytes-room : goal.returns-then-bytes-room
unfolding front_of
returns-then-bytes-room c = simp (le-leb _ _ c.if-bytes-room.true)

pub returns-else-bytes-room : goal.returns-else-bytes-room
unfolding front_of
returns-else-bytes-room c = simp (lt-leb _ _ c.if-bytes-room.false)

pub slice_bounds-result-end : goal.slice_bounds-result-end
slice_bounds-result-end c = sym (length-take-le _ _ c.if-bytes-room.true)
