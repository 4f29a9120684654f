-- The settings that rule a setup out.
pub mod Finding
pub mod Answers
pub mod Operations
pub mod Inner
