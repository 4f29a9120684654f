-- Refusals, and the packed form of an answer.
pub mod Refusals
pub mod Packed
