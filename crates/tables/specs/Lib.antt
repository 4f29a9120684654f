-- The table of a set of setups, how it is written, and that equal contents are equal files.
pub mod EqualFiles
pub mod Table
pub mod Writing
pub mod Answers
pub mod Inner
