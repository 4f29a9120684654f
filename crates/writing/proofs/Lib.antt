-- The laws of writing a table between two bounds.
pub mod Builds
pub mod Nothing
pub mod Outcomes
