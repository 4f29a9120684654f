-- The laws of making two tables into one.
pub mod Faults
pub mod Nodes
pub mod Outcomes
pub mod Promised
pub mod Theorems
