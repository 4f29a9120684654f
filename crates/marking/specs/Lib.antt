-- Marking what a root leads to.
pub mod Marks
