-- The laws of making a table of nodes.
pub mod Copying
pub mod Outcomes
