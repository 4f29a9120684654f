-- Two tables made into one.
pub mod Operations
pub mod Answers
pub mod Inner
