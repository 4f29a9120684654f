-- The closest permitted setup.
pub mod Search
pub mod Answers
pub mod Operations
pub mod Inner
