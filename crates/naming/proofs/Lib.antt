-- The laws of pairs made ready to be numbered.
pub mod Readying
