-- `division::extent_of` meets its contract: two starts. Assumes nothing.
use native.Mathlib.Omega.{arith}
use Rattle.division.proofs.Sharing.{some_part, rises, size_is}
use Rattle.division.proofs.extent_of.Goals as goal

pub start_of-start-requires : goal.start_of-start-requires
start_of-start-requires c = let p = some_part _ _ c.requires in omega arith

pub overflow_add-j : goal.overflow_add-j
overflow_add-j c = let p = some_part _ _ c.requires in record { fits = omega arith }

pub start_of-end-requires : goal.start_of-end-requires
start_of-end-requires c = let p = some_part _ _ c.requires in omega arith

pub overflow_sub-result : goal.overflow_sub-result
overflow_sub-result c = omega (arith, rises _ _ _ _ _ c.start_of-start.ensures c.start_of-end.ensures)

pub returns : goal.returns
returns c = let s = c.start_of-start.ensures in (s, size_is _ _ _ _ _ s c.start_of-end.ensures)
