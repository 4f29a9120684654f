-- Unranking a list of numbers.
pub mod Answers
pub mod Operations
pub mod Inner
