-- Divisions of a table into parts.
pub mod Span
pub mod Answers
pub mod Operations
