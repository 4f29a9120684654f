-- The laws of the table of a set, and of writing it.
pub mod EqualFiles
pub mod TableFor
pub mod TableLaws
pub mod WritingLaws
pub mod HandingOut
pub mod Writes
