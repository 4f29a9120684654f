-- The laws of pairs.
pub mod Sums
pub mod Numbers
pub mod Adding
