-- The laws of pairs.
pub mod Pairs
pub mod Meaning
pub mod Leading
pub mod Visiting
pub mod Exploring
